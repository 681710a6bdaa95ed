-- The parts of a sum stand for it: their meaning, their limits and their costs.
use Rattle.std.proofs.Common.{◌≡◌, ℕ, ◌+◌, ◌-◌, ◌<◌, ◌≤◌, ◌^◌, Bool, ◌&&◌, List, [], ◌∷◌, ◌++◌, length, Contains, ℤ, pos, neg_ℤ, ◌+ℤ◌, refl, sym, ap, ◌∙◌, subst, arith}
use Rattle.std.specs.Prelude.{unsigned_abs, max, reverse, IsTrue}
use Rattle.std.specs.Ordering.{int_eq}
use Rattle.std.proofs.lemmas.Int.{ints}
use Rattle.std.proofs.lemmas.List.{length-map, length-reverse}
use Rattle.std.proofs.lemmas.Nat.Gcd.{dvd_refl}
use Rattle.order_ints.specs.declared.order_int.OrdInt.{OrdInt}
use Rattle.order_ints.specs.Truth.{Valuation, Agree}
use Rattle.order_ints.specs.OrderValue.{value_of, in_order}
use Rattle.order_ints.specs.OrderRange.{weights, IsBounded, AreRising, IntBelow}
use Rattle.order_ints.specs.OrderLevels.{values_of}
use Rattle.order_ints.specs.OrderMade.{constant_of}
use Rattle.order_ints.specs.OrderChange.{negated_step, negated_of}
use Rattle.order_ints.proofs.Gains.{value_of-agree}
use Rattle.order_ints.proofs.Negation.{weights-negated, value_of-negated_of, in_order-negated, AreRising-negated, StepsBelow-negated}
use Rattle.order_ints.proofs.Reaching.{Contains-value_of}
use Rattle.order_ints.proofs.Fresh.{takes_each_value, values_of-integer_of_values, atoms-integer_of_values, AreRising-integer_of_values, IsBounded-integer_of_values, StepsBelow-vars}
use Rattle.core_cost.specs.Sums.{constant, cost_of_sum3, fresh_sum_of, cost_of_sum}
use Rattle.core_cost.specs.Relations.{IsWithin, AreWithin}
use Rattle.core_cost.proofs.SumLaws.{sum_of_more}
use Rattle.core_cost.proofs.ShapeLaws.{sum3-mono, sum-mono}
use Rattle.core_forms.specs.declared.form.Core.{Core}
use Rattle.core_forms.specs.declared.form.Core.TheVariants.{Sum3, Sum}
use Rattle.core_forms.specs.Values.{all_ordered, values, total}
use Rattle.core_forms.specs.Meaning.{Meets}
use Rattle.core_forms.specs.Place.{CoreBelow}
use Rattle.core_forms.specs.WellFormed.{IsSound, AreSound, greatest_abs, IsWellFormed}
use Rattle.core_forms.specs.Shapes.{steps_of, shape_of, shapes_of}
use Rattle.core_forms.specs.Sums.{sums_of}
use Rattle.core_forms.specs.Cost.{cost_of}
use Rattle.core_forms.specs.Cores.{MeetsAll, costs_of}
use Rattle.core_forms.proofs.Mapped.{core_truth-agree}
use Rattle.core_forms.proofs.IntLists.{IntsBelow-append, AreSound-append, all_ordered-append, values-append, total-append, abs_total-append}
use Rattle.core_forms.proofs.Places.{CoreBelow-more}
use Rattle.core_forms.proofs.CoreLists.{MeetsAll-first}
use Rattle.core_forms.proofs.ShapeLaws.{IsShape-of, length-shapes}
use Rattle.core_forms.proofs.SumValues.{sums-some, sums-ascend, sums-small, sums-among, sums-few, fresh-within, fresh-abs}
use Rattle.part_base.specs.PartsFor.{DoFit, ArePartsFor}
use Rattle.part_base.proofs.PartLaws.{parts-made}
use Rattle.decompose.specs.SumParts.{less_of, fresh_of, sum_parts}
use Rattle.decompose.proofs.Tests.{and_first, and_second, and_made, int_eq_tells, int_eq_made}
use Rattle.decompose.proofs.PartLaws.{alone-met}
use Rattle.decompose.proofs.SumSteps.{long_of}

-- ---- what sums say

module _ (τ : Valuation) where
  ordered : OrdInt → Bool
  ordered a = in_order τ a.steps

  pub sum3_tells : (a b c : OrdInt) → Meets τ (Sum3 a b c)
      → IsTrue (in_order τ a.steps) × IsTrue (in_order τ b.steps) × IsTrue (in_order τ c.steps) × (value_of τ a +ℤ value_of τ b ≡ value_of τ c)
  sum3_tells a b c h =
      let all = and_first (in_order τ a.steps && (in_order τ b.steps && in_order τ c.steps)) (int_eq (value_of τ a +ℤ value_of τ b) (value_of τ c)) h in
      let same = and_second (in_order τ a.steps && (in_order τ b.steps && in_order τ c.steps)) (int_eq (value_of τ a +ℤ value_of τ b) (value_of τ c)) h in
      let rest = and_second (in_order τ a.steps) (in_order τ b.steps && in_order τ c.steps) all in (
        and_first (in_order τ a.steps) (in_order τ b.steps && in_order τ c.steps) all,
        and_first (in_order τ b.steps) (in_order τ c.steps) rest,
        and_second (in_order τ b.steps) (in_order τ c.steps) rest,
        int_eq_tells (value_of τ a +ℤ value_of τ b) (value_of τ c) same,
      )

  pub sum3_made : (a b c : OrdInt) → IsTrue (in_order τ a.steps) → IsTrue (in_order τ b.steps) → IsTrue (in_order τ c.steps)
      → value_of τ a +ℤ value_of τ b ≡ value_of τ c → Meets τ (Sum3 a b c)
  sum3_made a b c oa ob oc same =
      and_made (in_order τ a.steps && (in_order τ b.steps && in_order τ c.steps)) (int_eq (value_of τ a +ℤ value_of τ b) (value_of τ c))
      (and_made (in_order τ a.steps) (in_order τ b.steps && in_order τ c.steps) oa (and_made (in_order τ b.steps) (in_order τ c.steps) ob oc))
      (int_eq_made (value_of τ a +ℤ value_of τ b) (value_of τ c) same)

  pub sum_tells : (xs : List OrdInt) (k : ℤ) → Meets τ (Sum xs k) → IsTrue (all_ordered τ xs) × (total (values τ xs) ≡ k)
  sum_tells xs k h =
      (and_first (all_ordered τ xs) (int_eq (total (values τ xs)) k) h, int_eq_tells (total (values τ xs)) k (and_second (all_ordered τ xs) (int_eq (total (values τ xs)) k) h))

  pub sum_made : (xs : List OrdInt) (k : ℤ) → IsTrue (all_ordered τ xs) → total (values τ xs) ≡ k → Meets τ (Sum xs k)
  sum_made xs k o same = and_made (all_ordered τ xs) (int_eq (total (values τ xs)) k) o (int_eq_made (total (values τ xs)) k same)

  ordered-first : (a : OrdInt) (xs : List OrdInt) → IsTrue (all_ordered τ (a ∷ xs)) → IsTrue (in_order τ a.steps) × IsTrue (all_ordered τ xs)
  ordered-first a xs h = (and_first (in_order τ a.steps) (all_ordered τ xs) h, and_second (in_order τ a.steps) (all_ordered τ xs) h)

  ordered-made : (a : OrdInt) (xs : List OrdInt) → IsTrue (in_order τ a.steps) → IsTrue (all_ordered τ xs) → IsTrue (all_ordered τ (a ∷ xs))
  ordered-made a xs h k = and_made (in_order τ a.steps) (all_ordered τ xs) h k

  -- a constant, and a number less an integer
  value-constant : (v : ℤ) → value_of τ (constant_of v) ≡ v
  value-constant v = omega (arith, ints)

  value-less : (k : ℤ) (a : OrdInt) → value_of τ (less_of k a) ≡ neg_ℤ (value_of τ a) +ℤ k
  value-less k a = let e = value_of-negated_of τ a in moved (negated_of a).base (neg_ℤ (value_of τ a)) _ e
    where
      moved : (p w : ℤ) (g : ℕ) → p +ℤ pos g ≡ w → p +ℤ k +ℤ pos g ≡ w +ℤ k
      moved p w g e = omega (arith, ints, e)

  order-less : (k : ℤ) (a : OrdInt) → in_order τ (less_of k a).steps ≡ in_order τ a.steps
  order-less k a = in_order-negated τ a.steps

-- ---- up to three members

module _ (k : ℤ) where
  abbrev zero_int : OrdInt
  zero_int = constant_of (pos 0)

  none_there : (τ : Valuation) → Meets τ (Sum3 zero_int zero_int (constant_of k)) → Meets τ (Sum [] k)
  none_there τ h = let s = sum3_tells τ zero_int zero_int (constant_of k) h in sum_made τ [] k refl (omega (arith, ints, s.3, value-constant τ k, value-constant τ (pos 0)))

  none_back : (τ : Valuation) → Meets τ (Sum [] k) → Meets τ (Sum3 zero_int zero_int (constant_of k))
  none_back τ h = let s = sum_tells τ [] k h in sum3_made τ zero_int zero_int (constant_of k) refl refl refl (omega (arith, ints, s.1, value-constant τ k, value-constant τ (pos 0)))

  one_there : (a : OrdInt) (τ : Valuation) → Meets τ (Sum3 a zero_int (constant_of k)) → Meets τ (Sum (a ∷ []) k)
  one_there a τ h =
      let s = sum3_tells τ a zero_int (constant_of k) h in
      sum_made τ (a ∷ []) k (ordered-made τ a [] s.0 refl) (omega (arith, ints, s.3, value-constant τ k, value-constant τ (pos 0)))

  one_back : (a : OrdInt) (τ : Valuation) → Meets τ (Sum (a ∷ []) k) → Meets τ (Sum3 a zero_int (constant_of k))
  one_back a τ h =
      let s = sum_tells τ (a ∷ []) k h in
      sum3_made τ a zero_int (constant_of k) (ordered-first τ a [] s.0).0 refl refl (omega (arith, ints, s.1, value-constant τ k, value-constant τ (pos 0)))

  two_there : (a b : OrdInt) (τ : Valuation) → Meets τ (Sum3 a zero_int (less_of k b)) → Meets τ (Sum (a ∷ b ∷ []) k)
  two_there a b τ h =
      let s = sum3_tells τ a zero_int (less_of k b) h in
      sum_made τ (a ∷ b ∷ []) k (ordered-made τ a (b ∷ []) s.0 (ordered-made τ b [] (sym (order-less τ k b) ∙ s.2) refl))
      (omega (arith, ints, s.3, value-less τ k b, value-constant τ (pos 0)))

  two_back : (a b : OrdInt) (τ : Valuation) → Meets τ (Sum (a ∷ b ∷ []) k) → Meets τ (Sum3 a zero_int (less_of k b))
  two_back a b τ h =
      let s = sum_tells τ (a ∷ b ∷ []) k h in
      let o = ordered-first τ a (b ∷ []) s.0 in
      sum3_made τ a zero_int (less_of k b) o.0 refl (order-less τ k b ∙ (ordered-first τ b [] o.1).0)
      (omega (arith, ints, s.1, value-less τ k b, value-constant τ (pos 0)))

  three_there : (a b c : OrdInt) (τ : Valuation) → Meets τ (Sum3 a b (less_of k c)) → Meets τ (Sum (a ∷ b ∷ c ∷ []) k)
  three_there a b c τ h =
      let s = sum3_tells τ a b (less_of k c) h in
      sum_made τ (a ∷ b ∷ c ∷ []) k
      (ordered-made τ a (b ∷ c ∷ []) s.0 (ordered-made τ b (c ∷ []) s.1 (ordered-made τ c [] (sym (order-less τ k c) ∙ s.2) refl)))
      (omega (arith, ints, s.3, value-less τ k c))

  three_back : (a b c : OrdInt) (τ : Valuation) → Meets τ (Sum (a ∷ b ∷ c ∷ []) k) → Meets τ (Sum3 a b (less_of k c))
  three_back a b c τ h =
      let s = sum_tells τ (a ∷ b ∷ c ∷ []) k h in
      let o = ordered-first τ a (b ∷ c ∷ []) s.0 in
      let p = ordered-first τ b (c ∷ []) o.1 in
      sum3_made τ a b (less_of k c) o.0 p.0 (order-less τ k c ∙ (ordered-first τ c [] p.1).0) (omega (arith, ints, s.1, value-less τ k c))

  -- limits
  sound-constant : (v : ℤ) → unsigned_abs v < 2 ^ 100 → IsSound (constant_of v)
  sound-constant v small = ((small, omega (arith, ints, small)), tt)

  pub bounded-less : (a : OrdInt) → greatest_abs a + unsigned_abs k < 2 ^ 100 → IsBounded (less_of k a)
  bounded-less a small =
      let w = weights-negated a.steps in
      (low a.base (weights a.steps) k small, high a.base (weights a.steps) (weights (negated_of a).steps) k w small)
    where
      low : (p : ℤ) (n : ℕ) (q : ℤ) → max (unsigned_abs p) (unsigned_abs (p +ℤ pos n)) + unsigned_abs q < 2 ^ 100 → unsigned_abs (neg_ℤ (p +ℤ pos n) +ℤ q) < 2 ^ 100
      low p n q h = omega (arith, ints, h)

      high : (p : ℤ) (n m : ℕ) (q : ℤ) → m ≡ n → max (unsigned_abs p) (unsigned_abs (p +ℤ pos n)) + unsigned_abs q < 2 ^ 100
          → unsigned_abs (neg_ℤ (p +ℤ pos n) +ℤ q +ℤ pos m) < 2 ^ 100
      high p n m q e h = omega (arith, ints, e, h)

  sound-less : (a : OrdInt) → IsSound a → greatest_abs a + unsigned_abs k < 2 ^ 100 → IsSound (less_of k a)
  sound-less a sound small = (bounded-less a small, AreRising-negated a.steps sound.1)

  steps-less : (a : OrdInt) → steps_of (less_of k a) ≡ steps_of a
  steps-less a = length-map (reverse a.steps) negated_step ∙ length-reverse a.steps

-- ---- four members and more

shapes-append : (xs : List OrdInt) (z : OrdInt) → shapes_of (xs ++ z ∷ []) ≡ shapes_of xs ++ shape_of z ∷ []
shapes-append [] z = refl
shapes-append (a ∷ xs) z = ap (λ ss. shape_of a ∷ ss) (shapes-append xs z)

within-itself : (a : OrdInt) → IsWithin (shape_of a) (shape_of a)
within-itself a = record { steps = omega arith; span = omega arith; divisor = dvd_refl _ }

module _ (next : ℕ) (a b : OrdInt) (others : List OrdInt) (k : ℤ) where
  abbrev z : OrdInt
  z = fresh_of next a b

  abbrev whole : Core
  whole = Sum (a ∷ b ∷ others) k

  long_implies : (τ : Valuation) → MeetsAll τ (long_of k next a b others).cores → Meets τ whole
  long_implies τ h =
      let s = (MeetsAll-first τ (Sum3 a b z) (Sum (others ++ z ∷ []) k ∷ [])).0 h in
      let first = sum3_tells τ a b z s.0 in
      let second = sum_tells τ (others ++ z ∷ []) k ((MeetsAll-first τ (Sum (others ++ z ∷ []) k) []).0 s.1).0 in
      let apart = and_first (all_ordered τ others) (all_ordered τ (z ∷ [])) (sym (all_ordered-append τ others (z ∷ [])) ∙ second.0) in
      let split : total (values τ (others ++ z ∷ [])) ≡ total (values τ others) +ℤ total (values τ (z ∷ [])) =
      ap total (values-append τ others (z ∷ [])) ∙ total-append (values τ others) (values τ (z ∷ [])) in
      sum_made τ (a ∷ b ∷ others) k (ordered-made τ a (b ∷ others) first.0 (ordered-made τ b others first.1 apart))
      (joined (value_of τ a) (value_of τ b) (value_of τ z) (total (values τ others)) (total (values τ (others ++ z ∷ []))) first.3 split second.1)
    where
      joined : (v w u t s : ℤ) → v +ℤ w ≡ u → s ≡ t +ℤ (u +ℤ pos 0) → s ≡ k → v +ℤ (w +ℤ t) ≡ k
      joined v w u t s e f g = omega (arith, ints, e, f, g)

  long_made : (τ : Valuation) → Meets τ whole → IsTrue (in_order τ z.steps) → value_of τ a +ℤ value_of τ b ≡ value_of τ z
      → MeetsAll τ (long_of k next a b others).cores
  long_made τ met oz same =
      let s = sum_tells τ (a ∷ b ∷ others) k met in
      let o = ordered-first τ a (b ∷ others) s.0 in
      let p = ordered-first τ b others o.1 in
      let split : total (values τ (others ++ z ∷ [])) ≡ total (values τ others) +ℤ total (values τ (z ∷ [])) =
      ap total (values-append τ others (z ∷ [])) ∙ total-append (values τ others) (values τ (z ∷ [])) in
      let ordered : IsTrue (all_ordered τ (others ++ z ∷ [])) =
      all_ordered-append τ others (z ∷ []) ∙ and_made (all_ordered τ others) (all_ordered τ (z ∷ [])) p.1 (ordered-made τ z [] oz refl) in
      let first = sum3_made τ a b z o.0 p.0 oz same in
      let second = sum_made τ (others ++ z ∷ []) k ordered
      (joined (value_of τ a) (value_of τ b) (value_of τ z) (total (values τ others)) (total (values τ (others ++ z ∷ []))) same split s.1) in
      (MeetsAll-first τ (Sum3 a b z) (Sum (others ++ z ∷ []) k ∷ [])).1 (first, (MeetsAll-first τ (Sum (others ++ z ∷ []) k) []).1 (second, refl))
    where
      joined : (v w u t s : ℤ) → v +ℤ w ≡ u → s ≡ t +ℤ (u +ℤ pos 0) → v +ℤ (w +ℤ t) ≡ k → s ≡ k
      joined v w u t s e f g = omega (arith, ints, e, f, g)

  long_extends : CoreBelow next whole → (σ : Valuation) → Meets σ whole → (τ : Valuation) × Agree next σ τ × MeetsAll τ (long_of k next a b others).cores
  long_extends below σ met =
      let s = sum_tells σ (a ∷ b ∷ others) k met in
      let o = ordered-first σ a (b ∷ others) s.0 in
      let p = ordered-first σ b others o.1 in
      let listed : Contains (values_of z) (value_of σ a +ℤ value_of σ b) =
      subst (λ vs. Contains vs (value_of σ a +ℤ value_of σ b)) (sym (values_of-integer_of_values (sums_of a b) next (sums-some a b) (sums-ascend a b)))
      (sums-among a b (value_of σ a) (value_of σ b) (Contains-value_of σ a o.0) (Contains-value_of σ b p.0)) in
      let r = takes_each_value σ z next (length (sums_of a b) - 1) (value_of σ a +ℤ value_of σ b) (atoms-integer_of_values (sums_of a b) next) listed in
      let va = value_of-agree next σ r.0 a r.1 below.1.0 in
      let vb = value_of-agree next σ r.0 b r.1 below.1.1.0 in
      let here : Meets r.0 whole = sym (core_truth-agree next σ r.0 whole below r.1) ∙ met in
      (r.0, r.1, long_made r.0 here r.2.0 (sym (r.2.1 ∙ ap (λ x. x +ℤ value_of σ b) va ∙ ap (λ x. value_of r.0 a +ℤ x) vb)))

  long_fits : 1 ≤ next → IsWellFormed whole → CoreBelow next whole → DoFit next (long_of k next a b others)
  long_fits some well below =
      let n = next + (length (sums_of a b) - 1) in
      let up = CoreBelow-more next n whole (omega arith) below in
      let few = sums-some a b in
      let small : greatest_abs a + greatest_abs b < 2 ^ 100 = omega (arith, well.1) in
      let sound : IsSound z = (IsBounded-integer_of_values (sums_of a b) next (sums-ascend a b) (sums-small a b small), AreRising-integer_of_values (sums_of a b) next (sums-ascend a b)) in
      let abs = fresh-abs a b next in
      let all = abs_total-append others (z ∷ []) in
      let place : IntBelow n z =
      StepsBelow-vars n next (length (sums_of a b) - 1) z.steps (atoms-integer_of_values (sums_of a b) next) (λ _. some) (omega arith) in
      record {
        formed = ((well.0.0, well.0.1.0, sound, small), ((AreSound-append others (z ∷ []) well.0.1.1 (sound, tt), omega (arith, well.1)), tt));
        below = ((tt, (up.1.0, (up.1.1.0, (place, tt)))), ((tt, IntsBelow-append n others (z ∷ []) up.1.1.1 (place, tt)), tt));
      }

  long_costs : 2 ≤ length others → IsWellFormed whole → (length (sums_of a b) - 1) + costs_of (long_of k next a b others).cores ≤ cost_of whole
  long_costs long well =
      let fresh = fresh_sum_of (shape_of a) (shape_of b) in
      let w = fresh-within a b next in
      let few = sums-few a b in
      let rising = AreRising-integer_of_values (sums_of a b) next (sums-ascend a b) in
      let here = sum3-mono (shape_of a) (shape_of b) (shape_of a) (shape_of b) (steps_of z) fresh.steps (IsShape-of a well.0.0.1) (IsShape-of b well.0.1.0.1) (within-itself a) (within-itself b) w.steps in
      let rest = sum-mono (shapes_of (others ++ z ∷ [])) (shapes_of others ++ fresh ∷ []) (rw (shapes-append others z) (AreWithin-last others well.0.1.1 rising w)) in
      let more = sum_of_more (shape_of a) (shape_of b) (shapes_of others) (omega (arith, length-shapes others)) in
      sums _ _ _ fresh.steps _ _ _ (omega arith) here rest more
    where
      AreWithin-last : (xs : List OrdInt) → AreSound xs → AreRising z.steps → IsWithin (shape_of z) (fresh_sum_of (shape_of a) (shape_of b))
          → AreWithin (shapes_of xs ++ shape_of z ∷ []) (shapes_of xs ++ fresh_sum_of (shape_of a) (shape_of b) ∷ [])
      AreWithin-last [] h up w = (IsShape-of z up, (w, tt))
      AreWithin-last (x ∷ xs) h up w = (IsShape-of x h.0.1, (within-itself x, AreWithin-last xs h.1 up w))

      sums : (f c d g c' d' all : ℕ) → f ≤ g → c ≤ c' → d ≤ d' → all ≡ g + c' + d' → f + (c + (d + 0)) ≤ all
      sums f c d g c' d' all h i j e = omega arith

-- ---- the parts of a sum

pub sum-parts : (next : ℕ) (xs : List OrdInt) (k : ℤ) → 1 ≤ next → IsWellFormed (Sum xs k) → CoreBelow next (Sum xs k)
    → ArePartsFor (Sum xs k) next (sum_parts next xs k)
unfolding cost_of_sum
sum-parts next [] k some well below =
    alone-met (Sum [] k) (Sum3 (constant_of (pos 0)) (constant_of (pos 0)) (constant_of k)) next below
    (sound-constant k (pos 0) (omega arith), sound-constant k (pos 0) (omega arith), sound-constant k k (omega (arith, well.1)), omega arith)
    (tt, (tt, (tt, (tt, tt)))) (omega arith) (none_there k) (none_back k)
sum-parts next (a ∷ []) k some well below =
    alone-met (Sum (a ∷ []) k) (Sum3 a (constant_of (pos 0)) (constant_of k)) next below
    (well.0.0, sound-constant k (pos 0) (omega arith), sound-constant k k (omega (arith, well.1)), omega (arith, well.1))
    (tt, (below.1.0, (tt, (tt, tt)))) (omega arith) (one_there k a) (one_back k a)
sum-parts next (a ∷ b ∷ []) k some well below =
    alone-met (Sum (a ∷ b ∷ []) k) (Sum3 a (constant_of (pos 0)) (less_of k b)) next below
    (well.0.0, sound-constant k (pos 0) (omega arith), sound-less k b well.0.1.0 (omega (arith, well.1)), omega (arith, well.1))
    (tt, (below.1.0, (tt, (StepsBelow-negated next b.steps below.1.1.0, tt))))
    (let e = ap (cost_of_sum3 (shape_of a) constant) (steps-less k b) in omega arith) (two_there k a b) (two_back k a b)
sum-parts next (a ∷ b ∷ c ∷ []) k some well below =
    alone-met (Sum (a ∷ b ∷ c ∷ []) k) (Sum3 a b (less_of k c)) next below
    (well.0.0, well.0.1.0, sound-less k c well.0.1.1.0 (omega (arith, well.1)), omega (arith, well.1))
    (tt, (below.1.0, (below.1.1.0, (StepsBelow-negated next c.steps below.1.1.1.0, tt))))
    (let e = ap (cost_of_sum3 (shape_of a) (shape_of b)) (steps-less k c) in omega arith) (three_there k a b c) (three_back k a b c)
sum-parts next (a ∷ b ∷ c ∷ d ∷ rest) k some well below =
    parts-made (Sum (a ∷ b ∷ c ∷ d ∷ rest) k) next (long_of k next a b (c ∷ d ∷ rest)) below
    (long_fits next a b (c ∷ d ∷ rest) k some well below) (long_costs next a b (c ∷ d ∷ rest) k (omega arith) well)
    (long_implies next a b (c ∷ d ∷ rest) k) (long_extends next a b (c ∷ d ∷ rest) k below)
