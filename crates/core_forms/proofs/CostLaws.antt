-- Trimming never raises a cost, and the costs of what fits in memory fit 128 bits.
use Rattle.std.proofs.Common.{◌≡◌, ℕ, ◌<◌, ◌≤◌, ◌^◌, true, List, [], ◌∷◌, ◌++◌, map, length, suc, refl, ap, arith}
use Rattle.std.specs.Prelude.{IfOk}
use Rattle.std.specs.declared.result.Result.{Result}
use Rattle.std.specs.declared.result.Result.TheVariants.{Ok, Err}
use Rattle.order_ints.specs.declared.atom.Atom.{Atom}
use Rattle.order_ints.specs.declared.atom.Atom.TheVariants.{True, False, Of}
use Rattle.order_ints.specs.declared.order_int.OrdInt.{OrdInt}
use Rattle.order_ints.specs.View.{resolve}
use Rattle.core_cost.specs.Saturated.{saturated}
use Rattle.core_cost.specs.Sums.{first_units, second_units, cost_of_sum}
use Rattle.core_cost.specs.Relations.{FitsInMemory, AllFitInMemory, PairsFitInMemory}
use Rattle.core_cost.proofs.Monotone.{ladder-mono, leq-mono, eq-mono, lex-mono, max-mono, all_diff-mono, prod-mono, div_mod-mono, parity-mono, amo-mono, count-mono}
use Rattle.core_cost.proofs.ShapeLaws.{sum3-mono, sum-mono}
use Rattle.core_cost.proofs.Bounds.{parity-fits, amo-fits, ladder-fits, leq-fits, eq-fits, lex-fits, max-fits, all_diff-fits, prod-fits, div_mod-fits, sum3-fits, count-fits}
use Rattle.core_cost.proofs.SumBounds.{sum-fits as shapes-fit}
use Rattle.core_forms.specs.declared.form.Core.{Core}
use Rattle.core_forms.specs.declared.form.Core.TheVariants.{Ladder, Clause, Parity, Conj, Comp, LeqR, EqR, Sum3, Count, Sum, Max, AllDiff, Amo, Prod, DivMod, Lex}
use Rattle.core_forms.specs.WellFormed.{AreSound, abs_total, IsWellFormed}
use Rattle.core_forms.specs.Resolved.{map_int, map_core}
use Rattle.core_forms.specs.Trimmed.{has_true, has_false, without_true, without_false, without_constants, tidied_clause, tidied_members, tidied_int, tidied_core, trimmed_core}
use Rattle.core_forms.specs.Shapes.{shape_of, shapes_of}
use Rattle.core_forms.specs.Cost.{cost_of, HasListsInMemory}
use Rattle.core_forms.proofs.Tidied.{by_test}
use Rattle.core_forms.proofs.Kept.{sound-kept}
use Rattle.core_forms.proofs.ShapeLaws.{IsShape-of, AreShapes-of, length-shapes, length-numbers, length-pairs, spans-within, trimmed-within, steps-trimmed, shapes-trimmed, numbers-trimmed, pairs-trimmed}

-- ---- lists of atoms become no longer

length-map : (f : Atom → Atom) (ls : List Atom) → length (map f ls) ≡ length ls
length-map f [] = refl
length-map f (a ∷ ls) = ap suc (length-map f ls)

length-false : (ls : List Atom) → length (without_false ls) ≤ length ls
length-false [] = omega arith
length-false (True ∷ ls) = omega (arith, length-false ls)
length-false (False ∷ ls) = omega (arith, length-false ls)
length-false (Of l ∷ ls) = omega (arith, length-false ls)

length-true : (ls : List Atom) → length (without_true ls) ≤ length ls
length-true [] = omega arith
length-true (True ∷ ls) = omega (arith, length-true ls)
length-true (False ∷ ls) = omega (arith, length-true ls)
length-true (Of l ∷ ls) = omega (arith, length-true ls)

length-literals : (ls : List Atom) → length (without_constants ls) ≤ length ls
length-literals [] = omega arith
length-literals (True ∷ ls) = omega (arith, length-literals ls)
length-literals (False ∷ ls) = omega (arith, length-literals ls)
length-literals (Of l ∷ ls) = omega (arith, length-literals ls)

some-true : (ls : List Atom) → has_true ls ≡ true → 1 ≤ length ls
some-true [] h = absurd (cc)
some-true (a ∷ ls) h = omega arith

some-false : (ls : List Atom) → has_false ls ≡ true → 1 ≤ length ls
some-false [] h = absurd (cc)
some-false (a ∷ ls) h = omega arith

length-clause : (ls : List Atom) → length (tidied_clause ls) ≤ length ls
length-clause ls =
    by_test (has_true ls) (True ∷ []) (without_false ls) (λ xs. length xs ≤ length ls) (λ e. some-true ls e) (λ _. length-false ls)

length-members : (ls : List Atom) → length (tidied_members ls) ≤ length ls
length-members ls =
    by_test (has_false ls) (False ∷ []) (without_true ls) (λ xs. length xs ≤ length ls) (λ e. some-false ls e) (λ _. length-true ls)

-- ---- trimming, form by form

module _ (f : Atom → Atom) where
  no_longer : (g : List Atom → List Atom) → ((ls : List Atom) → length (g ls) ≤ length ls) → (ls : List Atom) → length (g (map f ls)) ≤ length ls
  no_longer g h ls = omega (arith, h (map f ls), length-map f ls)

  pub cost-kept : (core : Core) → IsWellFormed core → cost_of (tidied_core (map_core f core)) ≤ cost_of core
  cost-kept (Ladder a) h = ladder-mono _ _ (steps-trimmed f a)
  cost-kept (Clause ls) h = no_longer tidied_clause length-clause ls
  cost-kept (Parity ls odd) h = parity-mono _ _ (no_longer without_constants length-literals ls)
  cost-kept (Conj r ls) h = omega (arith, no_longer tidied_members length-members ls)
  cost-kept (Comp a b hi lo) h = omega arith
  cost-kept (LeqR r a b) h = leq-mono _ _ _ _ (steps-trimmed f a) (steps-trimmed f b)
  cost-kept (EqR r a b) h = eq-mono _ _ _ _ (steps-trimmed f a) (steps-trimmed f b)
  cost-kept (Sum3 a b c) h =
      sum3-mono _ _ _ _ _ _ (IsShape-of (tidied_int (map_int f a)) (sound-kept f a h.0).1) (IsShape-of (tidied_int (map_int f b)) (sound-kept f b h.1).1) (trimmed-within f a) (trimmed-within f b) (steps-trimmed f c)
  cost-kept (Count ls c) h = count-mono _ _ _ _ (no_longer without_constants length-literals ls) (steps-trimmed f c)
  cost-kept (Sum ints k) h = sum-mono _ _ (shapes-trimmed f ints h.0)
  cost-kept (Max ints c) h = max-mono _ _ _ _ (numbers-trimmed f ints) (steps-trimmed f c)
  cost-kept (AllDiff ints cs) h = all_diff-mono _ _ (numbers-trimmed f ints)
  cost-kept (Amo ls) h = amo-mono _ _ (no_longer without_false length-false ls)
  cost-kept (Prod a b c) h = prod-mono _ _ _ _ _ _ (steps-trimmed f a) (steps-trimmed f b) (steps-trimmed f c)
  cost-kept (DivMod a b q r) h =
      div_mod-mono _ _ _ _ _ _ _ _ (steps-trimmed f a) (steps-trimmed f b) (steps-trimmed f q) (steps-trimmed f r)
  cost-kept (Lex r strict front back) h = lex-mono _ _ (pairs-trimmed f front back)

-- trimming never raises a cost
pub cost-trimmed : (view : List Atom) (core : Core) → IsWellFormed core → cost_of (trimmed_core view core) ≤ cost_of core
cost-trimmed view core h = cost-kept (resolve view) core h

-- ---- costs of what fits in memory

sum-fits : (ints : List OrdInt) → AreSound ints → abs_total ints < 2 ^ 100 → FitsInMemory (length ints) → cost_of_sum (shapes_of ints) < 2 ^ 128
sum-fits ints sound limit few =
    let l = length-shapes ints in
    let spans = spans-within ints in
    shapes-fit (shapes_of ints) (AreShapes-of ints sound) (omega arith) (omega arith)

pub cost-fits : (core : Core) → IsWellFormed core → HasListsInMemory core → cost_of core < 2 ^ 128
cost-fits (Ladder a) h m = ladder-fits _ m
cost-fits (Clause ls) h m = omega arith
cost-fits (Parity ls odd) h m = parity-fits _ m
cost-fits (Conj r ls) h m = omega arith
cost-fits (Comp a b hi lo) h m = omega arith
cost-fits (LeqR r a b) h m = leq-fits _ _ m.0 m.1
cost-fits (EqR r a b) h m = eq-fits _ _ m.0 m.1
cost-fits (Sum3 a b c) h m = sum3-fits _ _ _ (first_units (shape_of a) (shape_of b)) (second_units (shape_of a) (shape_of b)) m.0 m.1 m.2
cost-fits (Count ls c) h m = count-fits _ _ m.0 m.1
cost-fits (Sum ints k) h m = sum-fits ints h.0 (omega (arith, h.1)) m
cost-fits (Max ints c) h m = max-fits _ _ m.0 (let e = length-numbers ints in omega (arith, e, m.1)) m.2
cost-fits (AllDiff ints cs) h m = all_diff-fits _ m.0 (let e = length-numbers ints in omega (arith, e, m.1))
cost-fits (Amo ls) h m = amo-fits _ m
cost-fits (Prod a b c) h m = prod-fits _ _ _ m.0 m.1 m.2
cost-fits (DivMod a b q r) h m = div_mod-fits _ _ _ _ m.0 m.1 m.2 m.3
cost-fits (Lex r strict front back) h m = lex-fits _ m.0 (let e = length-pairs front back in omega (arith, e, m.1))

-- where a cost fits, what is given is the cost
pub exact_ok : {E : Type 0} (r : Result ℕ E) (core : Core) → IsWellFormed core → IfOk r (λ cost. cost ≡ saturated (cost_of core))
    → IfOk r (λ cost. HasListsInMemory core) → IfOk r (λ cost. cost ≡ cost_of core)
exact_ok (Ok cost) core well h fit = let fits = cost-fits core well fit in itself cost (cost_of core) h fits
  where
    itself : (x y : ℕ) → x ≡ saturated y → y < 2 ^ 128 → x ≡ y
    itself x y e h = omega (arith, e, h)
exact_ok (Err e) core well h fit = tt

-- one more number that fits
pub AllFit-append : (ns : List ℕ) (n : ℕ) → AllFitInMemory ns → FitsInMemory n → AllFitInMemory (ns ++ n ∷ [])
AllFit-append [] n h fits = (fits, tt)
AllFit-append (m ∷ ns) n h fits = (h.0, AllFit-append ns n h.1 fits)

pub PairsFit-append : (ps : List (ℕ × ℕ)) (p : ℕ × ℕ) → PairsFitInMemory ps → FitsInMemory p.0 → FitsInMemory p.1 → PairsFitInMemory (ps ++ p ∷ [])
PairsFit-append [] p h first second = (first, (second, tt))
PairsFit-append (q ∷ ps) p h first second = (h.0, (h.1.0, PairsFit-append ps p h.1.1 first second))
