-- The links of a core are made or stated in every view.
use Rattle.std.proofs.Common.{◌≡◌, ◌==◌, Bool, true, false, List, [], ◌∷◌, ◌++◌, map, length, pos, refl}
use Rattle.std.specs.Prelude.{if◌then◌else◌}
use Rattle.std.specs.Ordering.{int_eq}
use Rattle.order_ints.specs.declared.atom.Atom.{Atom}
use Rattle.order_ints.specs.declared.atom.Atom.TheVariants.{True, False, Of}
use Rattle.order_ints.specs.OrderRange.{low_of, high_of}
use Rattle.core_forms.specs.declared.equation.Rule.TheVariants.{Form}
use Rattle.core_forms.specs.declared.form.Core.{Core}
use Rattle.core_forms.specs.declared.form.Core.TheVariants.{Ladder, Clause, Parity, Conj, Comp, LeqR, EqR, Sum3, Count, Sum, Max, AllDiff, Amo, Prod, DivMod, Lex}
use Rattle.rule_base.specs.Pairs.{only_if}
use Rattle.rule_base.specs.Stated.{all_equal}
use Rattle.arith_rules.specs.SumRows.{lows_of, highs_of}
use Rattle.equation_runs.specs.Turns.{AreToldFrom}
use Rattle.equation_runs.specs.FreeAtoms.{are_free, step_atoms, int_atoms}
use Rattle.equation_runs.specs.BoundRows.{literals, lower_atoms, upper_atoms, above_atoms, free_bound, ints_bound, members_bound, bound_pairs}
use Rattle.equation_runs.specs.RunRows.{equation_of, link_pairs}
use Rattle.equation_runs.specs.TwinPairs.{opposite_pairs, both_atoms}
use Rattle.equation_runs.proofs.LaterTurns.{AreToldAlways}
use Rattle.equation_runs.proofs.Always.{Told}
use Rattle.equation_runs.proofs.LinkTurns.{equal-turn, sum-turn}
use Rattle.equation_runs.proofs.ProductTurns.{product-turn}
use Rattle.equation_runs.proofs.MaxTurns.{leaders-turn}
use Rattle.equation_runs.proofs.AmoTurns.{amo-turn}
use Rattle.equation_runs.proofs.DifferentTurns.{different-turn}
use Rattle.equation_runs.proofs.FreeLaws.{free-apart}
use Rattle.equation_runs.proofs.ConjTurns.{conj-turn}
use Rattle.equation_runs.proofs.BoundTurns.{lower-turn, upper-turn, above-turn}
use Rattle.equation_runs.proofs.CountTurns.{full-turn, none-turn}
use Rattle.equation_runs.proofs.TwinTurns.{twins-turn}

pub links-turn : (core : Core) → AreToldAlways Told core (map (equation_of Form) (link_pairs core))
links-turn (Ladder a) = tt
links-turn (Clause ls) = tt
links-turn (Parity ls odd) = tt
links-turn (Conj r ls) = tt
links-turn (Comp a b hi lo) = tt
links-turn (LeqR r a b) = tt
links-turn (EqR True a b) = equal-turn a b
links-turn (EqR False a b) = tt
links-turn (EqR (Of l) a b) = tt
links-turn (Sum3 a b c) = sum-turn a b c
links-turn (Count ls c) = tt
links-turn (Sum ints k) = tt
links-turn (Max ints c) = leaders-turn c ints
links-turn (AllDiff ints cs) = different-turn ints cs
links-turn (Amo ls) = amo-turn ls
links-turn (Prod a b c) = product-turn a b c
links-turn (DivMod a b q r) = tt
links-turn (Lex r strict front back) = tt

-- ---- what is told once those before it are made

module _ (core : Core) where
  -- where a test holds
  if-turn : (t : Bool) (ps : List (Atom × Atom)) → (t ≡ true → AreToldFrom Told core [] (map (equation_of Form) ps)) → AreToldFrom Told core [] (map (equation_of Form) (only_if t ps))
  if-turn true ps turn = turn refl
  if-turn false ps turn = tt

  either-turn : (t : Bool) (ps qs : List (Atom × Atom)) → (t ≡ true → AreToldFrom Told core [] (map (equation_of Form) ps)) → (t ≡ false → AreToldFrom Told core [] (map (equation_of Form) qs)) → AreToldFrom Told core [] (map (equation_of Form) (if t then ps else qs))
  either-turn true ps qs first second = first refl
  either-turn false ps qs first second = second refl

pub bounds-turn : (core : Core) → AreToldFrom Told core [] (map (equation_of Form) (bound_pairs core))
bounds-turn (Ladder a) = tt
bounds-turn (Clause ls) = tt
bounds-turn (Parity ls odd) = tt
bounds-turn (Conj True ls) = if-turn (Conj True ls) (are_free ls) (all_equal ls True) (λ free. conj-turn ls (free-apart ls free))
bounds-turn (Conj False ls) = tt
bounds-turn (Conj (Of l) ls) = tt
bounds-turn (Comp a b hi lo) = tt
bounds-turn (LeqR r a b) = tt
bounds-turn (EqR r a b) = tt
bounds-turn (Sum3 a b c) = tt
bounds-turn (Count ls c) =
    either-turn (Count ls c) (int_eq (low_of c) (pos (length ls))) (members_bound ls c True) (only_if (int_eq (high_of c) (pos 0)) (members_bound ls c False))
    (λ full. if-turn (Count ls c) (are_free (ls ++ step_atoms c.steps)) (all_equal ls True) (λ free. full-turn ls c (free-apart (ls ++ step_atoms c.steps) free) full))
    (λ _. if-turn (Count ls c) (int_eq (high_of c) (pos 0)) (members_bound ls c False)
    (λ none. if-turn (Count ls c) (are_free (ls ++ step_atoms c.steps)) (all_equal ls False) (λ free. none-turn ls c (free-apart (ls ++ step_atoms c.steps) free) none)))
bounds-turn (Sum xs k) =
    let lower = literals (lower_atoms k (highs_of xs) xs) in
    let upper = literals (upper_atoms k (lows_of xs) xs) in
    either-turn (Sum xs k) (length lower == 0) (ints_bound xs upper False) (free_bound xs lower True)
    (λ _. either-turn (Sum xs k) (length upper == 0) [] (free_bound xs upper False) (λ _. tt)
    (λ _. if-turn (Sum xs k) (are_free (int_atoms xs)) (all_equal upper False) (λ free. upper-turn xs k (free-apart (int_atoms xs) free))))
    (λ _. if-turn (Sum xs k) (are_free (int_atoms xs)) (all_equal lower True) (λ free. lower-turn xs k (free-apart (int_atoms xs) free)))
bounds-turn (Max xs c) =
    let above = literals (above_atoms c xs) in
    either-turn (Max xs c) (length above == 0) [] (free_bound (c ∷ xs) above False) (λ _. tt)
    (λ _. if-turn (Max xs c) (are_free (int_atoms (c ∷ xs))) (all_equal above False) (λ free. above-turn xs c (free-apart (int_atoms (c ∷ xs)) free)))
bounds-turn (AllDiff xs cs) =
    let ps = opposite_pairs xs cs (length xs) in
    if-turn (AllDiff xs cs) (are_free (both_atoms ps)) ps (λ free. twins-turn xs cs (free-apart (both_atoms ps) free))
bounds-turn (Amo ls) = tt
bounds-turn (Prod a b c) = tt
bounds-turn (DivMod a b q r) = tt
bounds-turn (Lex r strict front back) = tt
