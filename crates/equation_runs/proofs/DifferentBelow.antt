-- What holds of each atom of an all-different constraint holds of each atom of its run.
use Rattle.std.proofs.Common.{◌≡◌, ℕ, zero, suc, Option, None, Some, Bool, not, ◌&&◌, ◌||◌, List, [], ◌∷◌, ◌++◌, length, get_or, ℤ, pos, ◌+ℤ◌}
use Rattle.order_ints.specs.declared.atom.Atom.{Atom}
use Rattle.order_ints.specs.declared.atom.Atom.TheVariants.{False}
use Rattle.order_ints.specs.declared.order_int.OrdInt.{OrdInt}
use Rattle.order_ints.specs.OrderRange.{low_of}
use Rattle.order_ints.specs.OrderLevels.{values_of, at_of}
use Rattle.order_ints.specs.Same.{is_true, same_atom}
use Rattle.order_ints.specs.Truth.{not_atom}
use Rattle.core_forms.specs.Each.{EachOf, EachStep, EachInt}
use Rattle.rule_base.specs.Pairs.{only_if, EachOfPairs, IsClosed}
use Rattle.rule_base.specs.Constant.{is_constant}
use Rattle.rule_base.proofs.PairLaws.{EachOfPairs-append, EachOfPairs-only_if}
use Rattle.rule_base.proofs.StatedLaws.{each-at_of}
use Rattle.alldiff_rules.specs.Members.{int_at, condition_at}
use Rattle.alldiff_rules.specs.RowLists.{at_places}
use Rattle.alldiff_rules.specs.Twins.{first_atom}
use Rattle.equation_runs.specs.FreeAtoms.{are_free}
use Rattle.equation_runs.specs.TwinRuns.{twin_at}
use Rattle.equation_runs.specs.TwinPairs.{opposite_pair, opposite_pairs, both_atoms, twin_pairs}
use Rattle.core_forms.specs.Plain.{is_literal}
use Rattle.equation_runs.specs.DifferentRuns.{is_held, is_shared, is_spent, apart_pair, apart_pairs, condition_pair, excluded_pairs, member_pairs, members_pairs, different_pairs}

module _ (P : Atom → Type 0) (closed : IsClosed P) where
  each-int : (xs : List OrdInt) (i : ℕ) → EachInt P xs → EachStep P (int_at xs i).steps
  each-int [] i each = tt
  each-int (a ∷ xs) zero each = each.0
  each-int (a ∷ xs) (suc i) each = each-int xs i each.1

  each-condition : (cs : List Atom) (i : ℕ) → EachOf P cs → P (condition_at cs i)
  each-condition [] i each = closed.falsehood
  each-condition (c ∷ cs) zero each = each.0
  each-condition (c ∷ cs) (suc i) each = each-condition cs i each.1

  module _ (held shared : ℤ → Bool) where
    abbrev taken : ℤ → Bool
    taken v = held v || shared v

    each-apart : (a : OrdInt) (values : List ℤ) → EachStep P a.steps → EachOfPairs P (apart_pairs taken a values)
    each-apart a [] each = tt
    each-apart a (v ∷ values) each =
        EachOfPairs-append P (only_if (taken v) (apart_pair a v)) (apart_pairs taken a values)
        (EachOfPairs-only_if P (taken v) (apart_pair a v)
        (EachOfPairs-only_if P (not (same_atom (at_of a v) (at_of a (v +ℤ pos 1)))) ((at_of a v, at_of a (v +ℤ pos 1)) ∷ [])
        ((each-at_of P closed a v each, each-at_of P closed a (v +ℤ pos 1) each), tt)))
        (each-apart a values each)

    each-member : (c : Atom) (a : OrdInt) → P c → EachStep P a.steps → EachOfPairs P (member_pairs held shared c a)
    each-member c a one each =
        EachOfPairs-append P (condition_pair held c a) (excluded_pairs taken c a)
        (EachOfPairs-only_if P (is_literal c && (is_constant a && held (low_of a))) ((c, False) ∷ []) ((one, closed.falsehood), tt))
        (EachOfPairs-only_if P (is_true c && not (is_spent taken a)) (apart_pairs taken a (values_of a)) (each-apart a (values_of a) each))

    each-members : (xs : List OrdInt) (cs : List Atom) (n : ℕ) → EachOf P cs → EachInt P xs → EachOfPairs P (members_pairs held shared xs cs n)
    each-members xs cs zero first second = tt
    each-members xs cs (suc n) first second =
        EachOfPairs-append P (members_pairs held shared xs cs n) (member_pairs held shared (condition_at cs n) (int_at xs n))
        (each-members xs cs n first second) (each-member (condition_at cs n) (int_at xs n) (each-condition cs n first) (each-int xs n second))

  pub each-different : (xs : List OrdInt) (cs : List Atom) → EachOf P cs → EachInt P xs → EachOfPairs P (different_pairs xs cs)
  each-different xs cs first second = each-members (is_held xs cs) (is_shared xs cs) xs cs (length xs) first second

  -- those of members with the same two values
  each-first : (steps : List (Atom × ℕ)) → EachStep P steps → P (first_atom steps)
  each-first [] each = closed.truth
  each-first (s ∷ steps) each = each.0

  each-opposite : (xs : List OrdInt) (i : ℕ) (twin : Option ℕ) → EachInt P xs → EachOfPairs P (opposite_pair xs i twin)
  each-opposite xs i None each = tt
  each-opposite xs i (Some j) each =
      let p = first_atom (int_at xs i).steps in
      let q = first_atom (int_at xs j).steps in
      EachOfPairs-only_if P (not (same_atom q (not_atom p))) ((q, not_atom p) ∷ [])
      ((each-first (int_at xs j).steps (each-int xs j each), closed.negation p (each-first (int_at xs i).steps (each-int xs i each))), tt)

  pub each-opposites : (xs : List OrdInt) (cs : List Atom) (n : ℕ) → EachInt P xs → EachOfPairs P (opposite_pairs xs cs n)
  each-opposites xs cs zero each = tt
  each-opposites xs cs (suc n) each =
      EachOfPairs-append P (opposite_pairs xs cs n) (opposite_pair xs n (twin_at xs cs n)) (each-opposites xs cs n each) (each-opposite xs n (twin_at xs cs n) each)

  pub each-twins : (xs : List OrdInt) (cs : List Atom) → EachInt P xs → EachOfPairs P (twin_pairs xs cs)
  each-twins xs cs each =
      EachOfPairs-only_if P (are_free (both_atoms (opposite_pairs xs cs (length xs)))) (opposite_pairs xs cs (length xs)) (each-opposites xs cs (length xs) each)
