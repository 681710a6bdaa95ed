-- The equations of sums and counts hold where these are met.
use Rattle.std.proofs.Common.{◌≡◌, suc, ◌≤◌, Bool, true, false, not, ◌&&◌, cond, List, [], ◌∷◌, ◌++◌, length, ℤ, pos, ◌+ℤ◌, ◌-ℤ◌, ◌≤ℤ◌, refl, arith}
use Rattle.std.specs.Prelude.{int_le, IsTrue}
use Rattle.std.specs.Ordering.{int_eq}
use Rattle.std.proofs.lemmas.Int.{ints}
use Rattle.order_ints.specs.declared.atom.Atom.{Atom}
use Rattle.order_ints.specs.declared.atom.Atom.TheVariants.{True, False}
use Rattle.order_ints.specs.declared.order_int.OrdInt.{OrdInt}
use Rattle.order_ints.specs.Truth.{Valuation, atom_truth}
use Rattle.order_ints.specs.OrderValue.{value_of, in_order, IsOrdered}
use Rattle.order_ints.specs.OrderRange.{low_of, high_of}
use Rattle.order_ints.proofs.Gains.{low-le, high-ge}
use Rattle.core_forms.specs.Truths.{all_true, true_count}
use Rattle.core_forms.specs.Values.{all_ordered, values, total}
use Rattle.rule_base.specs.Pairs.{only_if, AreEqual}
use Rattle.rule_base.specs.Stated.{all_equal}
use Rattle.rule_base.specs.Constant.{is_constant}
use Rattle.rule_base.proofs.PairLaws.{AreEqual-append, AreEqual-only_if}
use Rattle.rule_base.proofs.StatedLaws.{all_equal-true, all_equal-false}
use Rattle.rule_base.proofs.ConstantLaws.{constant-value}
use Rattle.arith_rules.specs.Links.{within, linked, linked_back, opposed, opposed_above}
use Rattle.arith_rules.specs.SumRows.{sum3_ranges, raised_equations, mirrored_equations, sum3_constants, sum3_equations, count_equations, lows_of, highs_of, shares, sum_equations}
use Rattle.arith_rules.proofs.Turned.{linked_back-equal}
use Rattle.arith_rules.proofs.LinkSound.{within-equal, linked-equal, opposed-equal, opposed_above-equal}

-- ---- a sum of two integers

raised-test : (v k x y : ℤ) → k +ℤ x ≡ y → int_le v x ≡ int_le (v +ℤ k) y
raised-test v k x y e = grind (arith, ints)

lowered-test : (w k x y : ℤ) → k +ℤ x ≡ y → int_le w y ≡ int_le (w -ℤ k) x
lowered-test w k x y e = grind (arith, ints)

mirrored-test : (v k x y : ℤ) → x +ℤ y ≡ k → int_le v x ≡ not (int_le (k -ℤ v +ℤ pos 1) y)
mirrored-test v k x y e = grind (arith, ints)

mirrored-above-test : (w k x y : ℤ) → x +ℤ y ≡ k → int_le (k -ℤ w) x ≡ not (int_le (w +ℤ pos 1) y)
mirrored-above-test w k x y e = grind (arith, ints)

module _ (σ : Valuation) where
  raised-equal : (k : ℤ) (b c : OrdInt) → IsOrdered σ b → IsOrdered σ c → k +ℤ value_of σ b ≡ value_of σ c → AreEqual σ (raised_equations k b c)
  raised-equal k b c ob oc is =
      AreEqual-append σ (linked (λ v. v +ℤ k) b c) (linked_back (λ w. w -ℤ k) c b)
      (linked-equal σ b c ob oc (λ v. v +ℤ k) (λ v. raised-test v k (value_of σ b) (value_of σ c) is))
      (linked_back-equal σ (λ w. w -ℤ k) c b (linked-equal σ c b oc ob (λ w. w -ℤ k) (λ w. lowered-test w k (value_of σ b) (value_of σ c) is)))

  mirrored-equal : (k : ℤ) (a b : OrdInt) → IsOrdered σ a → IsOrdered σ b → value_of σ a +ℤ value_of σ b ≡ k → AreEqual σ (mirrored_equations k a b)
  mirrored-equal k a b oa ob is =
      AreEqual-append σ (opposed (λ v. k -ℤ v +ℤ pos 1) a b) (opposed_above (λ w. k -ℤ w) b a)
      (opposed-equal σ a b oa ob (λ v. k -ℤ v +ℤ pos 1) (λ v. mirrored-test v k (value_of σ a) (value_of σ b) is))
      (opposed_above-equal σ b a ob oa (λ w. k -ℤ w) (λ w. mirrored-above-test w k (value_of σ a) (value_of σ b) is))

  module _ (a b c : OrdInt) (oa : IsOrdered σ a) (ob : IsOrdered σ b) (oc : IsOrdered σ c) (is : value_of σ a +ℤ value_of σ b ≡ value_of σ c) where
    sum3-ranges : AreEqual σ (sum3_ranges a b c)
    sum3-ranges =
        let la = low-le σ a in let ha = high-ge σ a in let lb = low-le σ b in let hb = high-ge σ b in let lc = low-le σ c in let hc = high-ge σ c in
        let sum = within c (low_of a +ℤ low_of b) (high_of a +ℤ high_of b) in
        let first = within a (low_of c -ℤ high_of b) (high_of c -ℤ low_of b) in
        let second = within b (low_of c -ℤ high_of a) (high_of c -ℤ low_of a) in
        AreEqual-append σ (sum ++ first) second
        (AreEqual-append σ sum first
        (within-equal σ c (low_of a +ℤ low_of b) (high_of a +ℤ high_of b) oc (omega (arith, ints, is, la, lb)) (omega (arith, ints, is, ha, hb)))
        (within-equal σ a (low_of c -ℤ high_of b) (high_of c -ℤ low_of b) oa (omega (arith, ints, is, lc, hb)) (omega (arith, ints, is, hc, lb))))
        (within-equal σ b (low_of c -ℤ high_of a) (high_of c -ℤ low_of a) ob (omega (arith, ints, is, lc, ha)) (omega (arith, ints, is, hc, la)))

    sum3-constants : AreEqual σ (sum3_constants a b c)
    sum3-constants =
        let first = only_if (is_constant a) (raised_equations (low_of a) b c) in
        let second = only_if (is_constant b) (raised_equations (low_of b) a c) in
        AreEqual-append σ (first ++ second) (only_if (is_constant c) (mirrored_equations (low_of c) a b))
        (AreEqual-append σ first second
        (AreEqual-only_if σ (is_constant a) (raised_equations (low_of a) b c) (λ e.
        let k = constant-value σ a e in raised-equal (low_of a) b c ob oc (omega (arith, ints, k, is))))
        (AreEqual-only_if σ (is_constant b) (raised_equations (low_of b) a c) (λ e.
        let k = constant-value σ b e in raised-equal (low_of b) a c oa oc (omega (arith, ints, k, is)))))
        (AreEqual-only_if σ (is_constant c) (mirrored_equations (low_of c) a b) (λ e.
        let k = constant-value σ c e in mirrored-equal (low_of c) a b oa ob (omega (arith, ints, k, is))))

    pub sum3-equal : AreEqual σ (sum3_equations a b c)
    sum3-equal = AreEqual-append σ (sum3_ranges a b c) (sum3_constants a b c) sum3-ranges sum3-constants

  -- ---- a count

  count-most : (ls : List Atom) → true_count σ ls ≤ length ls
  count-most [] = omega arith
  count-most (l ∷ ls) = by (atom_truth σ l) (count-most ls)
    where
      by : (t : Bool) → true_count σ ls ≤ length ls → cond t (suc (true_count σ ls)) (true_count σ ls) ≤ suc (length ls)
      by true h = omega (arith, h)
      by false h = omega (arith, h)

  all-counted : (ls : List Atom) → true_count σ ls ≡ length ls → all_true σ ls ≡ true
  all-counted [] e = refl
  all-counted (l ∷ ls) e = by (atom_truth σ l) e (count-most ls) (all-counted ls)
    where
      by : (t : Bool) → cond t (suc (true_count σ ls)) (true_count σ ls) ≡ suc (length ls) → true_count σ ls ≤ length ls → (true_count σ ls ≡ length ls → all_true σ ls ≡ true) → (t && all_true σ ls) ≡ true
      by true e most more = more (omega (arith, e))
      by false e most more = absurd (omega (arith, e, most))

  eq-true : (v w : ℤ) → int_eq v w ≡ true → v ≡ w
  eq-true v w h = grind (arith, ints)

  pub count-equal : (ls : List Atom) (c : OrdInt) → IsOrdered σ c → value_of σ c ≡ pos (true_count σ ls) → AreEqual σ (count_equations ls c)
  count-equal ls c oc is =
      let most = count-most ls in
      let low = low-le σ c in
      let high = high-ge σ c in
      let range = within c (pos 0) (pos (length ls)) in
      let full = only_if (int_eq (low_of c) (pos (length ls))) (all_equal ls True) in
      AreEqual-append σ (range ++ full) (only_if (int_eq (high_of c) (pos 0)) (all_equal ls False))
      (AreEqual-append σ range full
      (within-equal σ c (pos 0) (pos (length ls)) oc (omega (arith, ints, is)) (omega (arith, ints, is, most)))
      (AreEqual-only_if σ (int_eq (low_of c) (pos (length ls))) (all_equal ls True) (λ e.
      let low_is = eq-true (low_of c) (pos (length ls)) e in all_equal-true σ ls (all-counted ls (omega (arith, ints, is, low_is, low, most))))))
      (AreEqual-only_if σ (int_eq (high_of c) (pos 0)) (all_equal ls False) (λ e.
      let high_is = eq-true (high_of c) (pos 0) e in all_equal-false σ ls (omega (arith, ints, is, high_is, high))))

  -- ---- a sum of members

  total-from : (xs : List OrdInt) → lows_of xs ≤ℤ total (values σ xs)
  total-from [] = omega (arith, ints)
  total-from (a ∷ xs) = omega (arith, ints, low-le σ a, total-from xs)

  total-to : (xs : List OrdInt) → total (values σ xs) ≤ℤ highs_of xs
  total-to [] = omega (arith, ints)
  total-to (a ∷ xs) = omega (arith, ints, high-ge σ a, total-to xs)

  first-ordered : (s t : Bool) → (s && t) ≡ true → s ≡ true
  first-ordered true t h = refl
  first-ordered false t h = absurd (cc)

  others-ordered : (s t : Bool) → (s && t) ≡ true → t ≡ true
  others-ordered true t h = h
  others-ordered false t h = absurd (cc)

  -- the members at hand are those behind some whose values add up to v, from low to high
  shares-equal : (k lows highs low v high : ℤ) (xs : List OrdInt) → IsTrue (all_ordered σ xs) → low ≤ℤ v → v ≤ℤ high → low +ℤ lows_of xs ≡ lows → high +ℤ highs_of xs ≡ highs → v +ℤ total (values σ xs) ≡ k → AreEqual σ (shares k lows highs xs)
  shares-equal k lows highs low v high [] order from to l h is = tt
  shares-equal k lows highs low v high (a ∷ xs) order from to l h is =
      let la = low-le σ a in
      let ha = high-ge σ a in
      let lxs = total-from xs in
      let hxs = total-to xs in
      let oa : IsOrdered σ a = first-ordered (in_order σ a.steps) (all_ordered σ xs) order in
      AreEqual-append σ (within a (k -ℤ (highs -ℤ high_of a)) (k -ℤ (lows -ℤ low_of a))) (shares k lows highs xs)
      (within-equal σ a (k -ℤ (highs -ℤ high_of a)) (k -ℤ (lows -ℤ low_of a)) oa (omega (arith, ints, h, is, to, hxs)) (omega (arith, ints, l, is, from, lxs)))
      (shares-equal k lows highs (low +ℤ low_of a) (v +ℤ value_of σ a) (high +ℤ high_of a) xs (others-ordered (in_order σ a.steps) (all_ordered σ xs) order)
      (omega (arith, ints, from, la)) (omega (arith, ints, to, ha)) (omega (arith, ints, l)) (omega (arith, ints, h)) (omega (arith, ints, is)))

  not-true : (s : Bool) → not s ≡ true → s ≡ false
  not-true true h = absurd (cc)
  not-true false h = refl

  pub sum-equal : (xs : List OrdInt) (k : ℤ) → IsTrue (all_ordered σ xs) → total (values σ xs) ≡ k → AreEqual σ (sum_equations xs k)
  sum-equal [] k order is =
      AreEqual-only_if σ (not (int_eq k (pos 0))) ((True, False) ∷ []) (λ e. absurd (let no_zero = not-true (int_eq k (pos 0)) e in grind (arith, ints)))
  sum-equal (a ∷ xs) k order is =
      shares-equal k (lows_of (a ∷ xs)) (highs_of (a ∷ xs)) (pos 0) (pos 0) (pos 0) (a ∷ xs) order (omega (arith, ints)) (omega (arith, ints)) (omega (arith, ints)) (omega (arith, ints)) (omega (arith, ints, is))
