-- The equations of products and divisions hold where these are met.
use Rattle.std.proofs.Common.{◌≡◌, Bool, true, false, not, ◌&&◌, [], ◌∷◌, ◌++◌, ℤ, pos, negsuc, neg_ℤ, ◌+ℤ◌, ◌*ℤ◌, ◌≤ℤ◌, ◌<ℤ◌, refl, sym, ap, subst, ◌∙◌, arith}
use Rattle.std.specs.Prelude.{int_le, int_lt}
use Rattle.std.proofs.Math.IntN.{zero-*ℤ, *ℤ_comm}
use Rattle.std.proofs.lemmas.Int.{ints, by_lt_z}
use Rattle.order_ints.specs.declared.order_int.OrdInt.{OrdInt}
use Rattle.order_ints.specs.Truth.{Valuation}
use Rattle.order_ints.specs.OrderValue.{value_of, IsOrdered}
use Rattle.order_ints.specs.OrderRange.{low_of, high_of}
use Rattle.order_ints.proofs.Gains.{low-le, high-ge}
use Rattle.order_ints.proofs.Comparisons.{int_le-true, le_from_test}
use Rattle.order_ints.proofs.Multiples.{pos-*ℤ-neg}
use Rattle.rule_base.specs.Pairs.{only_if, AreEqual}
use Rattle.rule_base.specs.Stated.{at_least, is_below}
use Rattle.rule_base.specs.Constant.{is_constant}
use Rattle.rule_base.proofs.PairLaws.{AreEqual-append, AreEqual-only_if}
use Rattle.rule_base.proofs.StatedLaws.{at_of-reached, at_of-passed}
use Rattle.rule_base.proofs.ConstantLaws.{constant-value}
use Rattle.arith_rules.specs.Links.{within, linked, linked_back, opposed, opposed_above}
use Rattle.arith_rules.specs.ProductRows.{floor_of, ceiling_of, least_product, greatest_product, factor_equations, multiple_equations, negative_equations, scaled_equations, prod_equations, quotient_equations, dividend_equations, div_mod_equations}
use Rattle.arith_rules.proofs.Turned.{linked_back-equal}
use Rattle.arith_rules.proofs.LinkSound.{within-equal, linked-equal, opposed-equal, opposed_above-equal}
use Rattle.arith_rules.proofs.ProductLaws.{times-up, times-next, le-le, times-test, corners-low, corners-high, floor-low, floor-test, ceiling-test, negative-test, negative-floor}

and-left : (s t : Bool) → (s && t) ≡ true → s ≡ true
and-left true t h = refl
and-left false t h = absurd (cc)

and-right : (s t : Bool) → (s && t) ≡ true → t ≡ true
and-right true t h = h
and-right false t h = absurd (cc)

lt-true : (v w : ℤ) → int_lt v w ≡ true → v <ℤ w
lt-true v w h = grind (arith, ints)

-- at most v is below the next number
at-most-not : (v w : ℤ) → int_le w v ≡ not (int_le (v +ℤ pos 1) w)
at-most-not v w = grind (arith, ints)

module _ (σ : Valuation) where
  -- k times b is c
  module _ (k : ℤ) (b c : OrdInt) (ob : IsOrdered σ b) (oc : IsOrdered σ c) (is : (k *ℤ value_of σ b) ≡ value_of σ c) where
    multiples-equal : pos 1 ≤ℤ k → AreEqual σ (multiple_equations k b c)
    multiples-equal one =
        AreEqual-append σ (linked_back (λ v. k *ℤ v) b c) (linked (λ w. ceiling_of w k) c b)
        (linked_back-equal σ (λ v. k *ℤ v) b c (linked-equal σ b c ob oc (λ v. k *ℤ v) (λ v. times-test k v (value_of σ b) one ∙ ap (int_le (k *ℤ v)) is)))
        (linked-equal σ c b oc ob (λ w. ceiling_of w k) (λ w. ap (int_le w) (sym is) ∙ sym (ceiling-test w (value_of σ b) k one)))

    negatives-equal : k <ℤ pos 0 → AreEqual σ (negative_equations k b c)
    negatives-equal neg =
        AreEqual-append σ (opposed_above (λ v. k *ℤ v) b c) (opposed (λ w. floor_of (neg_ℤ w) (neg_ℤ k) +ℤ pos 1) c b)
        (opposed_above-equal σ b c ob oc (λ v. k *ℤ v)
        (λ v. ap (int_le (k *ℤ v)) (sym is) ∙ negative-test k v (value_of σ b) neg ∙ at-most-not v (value_of σ b)))
        (opposed-equal σ c b oc ob (λ w. floor_of (neg_ℤ w) (neg_ℤ k) +ℤ pos 1)
        (λ w. ap (int_le w) (sym is) ∙ negative-floor k w (value_of σ b) neg ∙ at-most-not (floor_of (neg_ℤ w) (neg_ℤ k)) (value_of σ b)))

    scaled-equal : AreEqual σ (scaled_equations k b c)
    scaled-equal =
        AreEqual-append σ (only_if (int_lt (pos 0) k) (multiple_equations k b c)) (only_if (int_lt k (pos 0)) (negative_equations k b c))
        (AreEqual-only_if σ (int_lt (pos 0) k) (multiple_equations k b c) (λ e. let lt = lt-true (pos 0) k e in multiples-equal (omega (arith, ints, lt))))
        (AreEqual-only_if σ (int_lt k (pos 0)) (negative_equations k b c) (λ e. negatives-equal (lt-true k (pos 0) e)))

  -- a times b is c, none below 0
  factor-equal : (a b c : OrdInt) → IsOrdered σ a → (value_of σ a *ℤ value_of σ b) ≡ value_of σ c → AreEqual σ (factor_equations a b c)
  factor-equal a b c oa is =
      AreEqual-only_if σ (int_le (pos 0) (low_of a) && (int_le (pos 1) (low_of b) && int_le (pos 0) (low_of c)))
      (within a (ceiling_of (low_of c) (high_of b)) (floor_of (high_of c) (low_of b))) (λ e.
      let la = le_from_test (pos 0) (low_of a) (and-left (int_le (pos 0) (low_of a)) (int_le (pos 1) (low_of b) && int_le (pos 0) (low_of c)) e) in
      let lb = le_from_test (pos 1) (low_of b) (and-left (int_le (pos 1) (low_of b)) (int_le (pos 0) (low_of c)) (and-right (int_le (pos 0) (low_of a)) (int_le (pos 1) (low_of b) && int_le (pos 0) (low_of c)) e)) in
      let va : pos 0 ≤ℤ value_of σ a = le-le (pos 0) (low_of a) (value_of σ a) la (low-le σ a) in
      let hb : pos 1 ≤ℤ high_of b = le-le (pos 1) (low_of b) (high_of b) lb (le-le (low_of b) (value_of σ b) (high_of b) (low-le σ b) (high-ge σ b)) in
      let product : (value_of σ a *ℤ value_of σ b) ≤ℤ high_of c = subst (λ z. z ≤ℤ high_of c) (sym is) (high-ge σ c) in
      let least : low_of c ≤ℤ (value_of σ a *ℤ value_of σ b) = subst (λ z. low_of c ≤ℤ z) (sym is) (low-le σ c) in
      let under : (low_of b *ℤ value_of σ a) ≤ℤ high_of c =
      le-le (low_of b *ℤ value_of σ a) (value_of σ a *ℤ value_of σ b) (high_of c)
      (subst (λ z. z ≤ℤ (value_of σ a *ℤ value_of σ b)) (*ℤ_comm (value_of σ a) (low_of b)) (times-up (value_of σ a) (low_of b) (value_of σ b) va (low-le σ b))) product in
      let over : low_of c ≤ℤ (high_of b *ℤ value_of σ a) =
      le-le (low_of c) (value_of σ a *ℤ value_of σ b) (high_of b *ℤ value_of σ a) least
      (subst (λ z. (value_of σ a *ℤ value_of σ b) ≤ℤ z) (*ℤ_comm (value_of σ a) (high_of b)) (times-up (value_of σ a) (value_of σ b) (high_of b) va (high-ge σ b))) in
      let most = le_from_test (value_of σ a) (floor_of (high_of c) (low_of b)) (floor-test (high_of c) (value_of σ a) (low_of b) lb ∙ int_le-true (low_of b *ℤ value_of σ a) (high_of c) under) in
      let from = le_from_test (ceiling_of (low_of c) (high_of b)) (value_of σ a) (ceiling-test (low_of c) (value_of σ a) (high_of b) hb ∙ int_le-true (low_of c) (high_of b *ℤ value_of σ a) over) in
      within-equal σ a (ceiling_of (low_of c) (high_of b)) (floor_of (high_of c) (low_of b)) oa from most)

  module _ (a b c : OrdInt) (oa : IsOrdered σ a) (ob : IsOrdered σ b) (oc : IsOrdered σ c) (is : (value_of σ a *ℤ value_of σ b) ≡ value_of σ c) where
    turned : (value_of σ b *ℤ value_of σ a) ≡ value_of σ c
    turned = *ℤ_comm (value_of σ b) (value_of σ a) ∙ is

    pub prod-equal : AreEqual σ (prod_equations a b c)
    prod-equal =
        let range = within c (least_product a b) (greatest_product a b) in
        let first = only_if (is_constant a) (scaled_equations (low_of a) b c) in
        AreEqual-append σ (range ++ factor_equations a b c ++ factor_equations b a c ++ first) (only_if (is_constant b) (scaled_equations (low_of b) a c))
        (AreEqual-append σ (range ++ factor_equations a b c ++ factor_equations b a c) first
        (AreEqual-append σ (range ++ factor_equations a b c) (factor_equations b a c)
        (AreEqual-append σ range (factor_equations a b c)
        (within-equal σ c (least_product a b) (greatest_product a b) oc
        (subst (λ z. least_product a b ≤ℤ z) is (corners-low (low_of a) (value_of σ a) (high_of a) (low_of b) (value_of σ b) (high_of b) (low-le σ a) (high-ge σ a) (low-le σ b) (high-ge σ b)))
        (subst (λ z. z ≤ℤ greatest_product a b) is (corners-high (low_of a) (value_of σ a) (high_of a) (low_of b) (value_of σ b) (high_of b) (low-le σ a) (high-ge σ a) (low-le σ b) (high-ge σ b))))
        (factor-equal a b c oa is))
        (factor-equal b a c ob turned))
        (AreEqual-only_if σ (is_constant a) (scaled_equations (low_of a) b c) (λ e.
        scaled-equal (low_of a) b c ob oc (ap (λ z. z *ℤ value_of σ b) (sym (constant-value σ a e)) ∙ is))))
        (AreEqual-only_if σ (is_constant b) (scaled_equations (low_of b) a c) (λ e.
        scaled-equal (low_of b) a c oa oc (ap (λ z. z *ℤ value_of σ a) (sym (constant-value σ b e)) ∙ turned)))

  -- a is b times q plus r, where r is from 0 and below b; and a is from 0, b from 1
  module _ (a b q r : OrdInt) (oa : IsOrdered σ a) (oq : IsOrdered σ q) (or : IsOrdered σ r)
      (is : value_of σ a ≡ (value_of σ b *ℤ value_of σ q) +ℤ value_of σ r) (from : pos 0 ≤ℤ value_of σ r) (to : value_of σ r <ℤ value_of σ b)
      (la : pos 0 ≤ℤ low_of a) (lb : pos 1 ≤ℤ low_of b) where
    vb : pos 1 ≤ℤ value_of σ b
    vb = le-le (pos 1) (low_of b) (value_of σ b) lb (low-le σ b)

    hb : pos 1 ≤ℤ high_of b
    hb = le-le (pos 1) (value_of σ b) (high_of b) vb (high-ge σ b)

    one-zero : (v : ℤ) → pos 1 ≤ℤ v → pos 0 ≤ℤ v
    one-zero v h = omega (arith, ints, h)

    -- the quotient is from 0: with -1 the dividend would be below 0
    below-zero : (p va vr vb : ℤ) → va ≡ p +ℤ vr → vr <ℤ vb → pos 0 ≤ℤ va → p ≤ℤ neg_ℤ vb → ⊥
    below-zero p va vr vb e lt le h = omega (arith, ints, e, lt, le, h)

    vq : pos 0 ≤ℤ value_of σ q
    vq =
        by_lt_z (value_of σ q) (pos 0)
        (λ lt. absurd (below-zero (value_of σ b *ℤ value_of σ q) (value_of σ a) (value_of σ r) (value_of σ b) is to (le-le (pos 0) (low_of a) (value_of σ a) la (low-le σ a))
        (subst (λ z. (value_of σ b *ℤ value_of σ q) ≤ℤ z) (minus-one (value_of σ b) vb) (times-up (value_of σ b) (value_of σ q) (neg_ℤ (pos 1)) (one-zero (value_of σ b) vb) (omega (arith, ints, lt))))))
        (λ le. le)
      where
        minus-one : (d : ℤ) → pos 1 ≤ℤ d → (d *ℤ neg_ℤ (pos 1)) ≡ neg_ℤ d
        minus-one (pos n) h = pos-*ℤ-neg n (pos 1) ∙ ap (λ m. neg_ℤ (pos m)) (omega arith)
        minus-one (negsuc n) h = absurd (omega (arith, ints, h))

    -- the product is at most the dividend, and less than b below it
    product-most : (p va vr ha : ℤ) → va ≡ p +ℤ vr → pos 0 ≤ℤ vr → va ≤ℤ ha → p ≤ℤ ha
    product-most p va vr ha e low high = omega (arith, ints, e, low, high)

    zero-product : (d z : ℤ) → pos 0 ≤ℤ d → pos 0 ≤ℤ z → pos 0 ≤ℤ (d *ℤ z)
    zero-product d z hd hz = subst (λ x. x ≤ℤ (d *ℤ z)) (*ℤ_comm d (pos 0) ∙ zero-*ℤ d) (times-up d (pos 0) z hd hz)

    rest-most : (p va vr ha : ℤ) → va ≡ p +ℤ vr → pos 0 ≤ℤ p → va ≤ℤ ha → vr <ℤ (ha +ℤ pos 1)
    rest-most p va vr ha e low high = omega (arith, ints, e, low, high)

    -- the quotient is at most the greatest dividend by the least divisor
    quotient-most : value_of σ q ≤ℤ floor_of (high_of a) (low_of b)
    quotient-most =
        le_from_test (value_of σ q) (floor_of (high_of a) (low_of b))
        (floor-test (high_of a) (value_of σ q) (low_of b) lb ∙ int_le-true (low_of b *ℤ value_of σ q) (high_of a)
        (le-le (low_of b *ℤ value_of σ q) (value_of σ b *ℤ value_of σ q) (high_of a)
        (subst (λ z. z ≤ℤ (value_of σ b *ℤ value_of σ q)) (*ℤ_comm (value_of σ q) (low_of b)) (subst (λ z. (value_of σ q *ℤ low_of b) ≤ℤ z) (*ℤ_comm (value_of σ q) (value_of σ b)) (times-up (value_of σ q) (low_of b) (value_of σ b) vq (low-le σ b))))
        (product-most (value_of σ b *ℤ value_of σ q) (value_of σ a) (value_of σ r) (high_of a) is from (high-ge σ a))))

    next-product : (p n d va vr : ℤ) → va ≡ p +ℤ vr → vr <ℤ d → n ≡ p +ℤ d → va <ℤ n
    next-product p n d va vr e lt f = omega (arith, ints, e, lt, f)

    less-than : (l va n m : ℤ) → l ≤ℤ va → va <ℤ n → n ≤ℤ m → l <ℤ m
    less-than l va n m le lt le' = omega (arith, ints, le, lt, le')

    not-both : (p q : ℤ) → p ≤ℤ q → q <ℤ p → ⊥
    not-both p q le lt = omega (arith, ints, le, lt)

    -- and at least the least dividend by the greatest divisor
    quotient-least : floor_of (low_of a) (high_of b) ≤ℤ value_of σ q
    quotient-least =
        by_lt_z (value_of σ q) (floor_of (low_of a) (high_of b))
        (λ lt. absurd (
        let next = value_of σ q +ℤ pos 1 in
        let times : (high_of b *ℤ next) ≤ℤ low_of a =
        le-le (high_of b *ℤ next) (high_of b *ℤ floor_of (low_of a) (high_of b)) (low_of a)
        (times-up (high_of b) next (floor_of (low_of a) (high_of b)) (one-zero (high_of b) hb) (omega (arith, ints, lt))) (floor-low (low_of a) (high_of b) hb) in
        let wider : (value_of σ b *ℤ next) ≤ℤ (high_of b *ℤ next) =
        subst (λ z. z ≤ℤ (high_of b *ℤ next)) (*ℤ_comm next (value_of σ b)) (subst (λ z. (next *ℤ value_of σ b) ≤ℤ z) (*ℤ_comm next (high_of b))
        (times-up next (value_of σ b) (high_of b) (omega (arith, ints, vq)) (high-ge σ b))) in
        let above : value_of σ a <ℤ (value_of σ b *ℤ next) =
        next-product (value_of σ b *ℤ value_of σ q) (value_of σ b *ℤ next) (value_of σ b) (value_of σ a) (value_of σ r) is to (times-next (value_of σ b) (value_of σ q) vb) in
        not-both (high_of b *ℤ next) (low_of a) times (less-than (low_of a) (value_of σ a) (value_of σ b *ℤ next) (high_of b *ℤ next) (low-le σ a) above wider)))
        (λ le. le)

    quotient-equal : AreEqual σ (quotient_equations a b q r)
    quotient-equal =
        let product = zero-product (value_of σ b) (value_of σ q) (one-zero (value_of σ b) vb) vq in
        AreEqual-append σ (within q (floor_of (low_of a) (high_of b)) (floor_of (high_of a) (low_of b))) (at_least r (pos 0) ∷ is_below r (high_of b) ∷ is_below r (high_of a +ℤ pos 1) ∷ [])
        (within-equal σ q (floor_of (low_of a) (high_of b)) (floor_of (high_of a) (low_of b)) oq quotient-least quotient-most) (
          at_of-reached σ r (pos 0) or from,
          (
            at_of-passed σ r (high_of b) or (below-high (value_of σ r) (value_of σ b) (high_of b) to (high-ge σ b)),
            (at_of-passed σ r (high_of a +ℤ pos 1) or (rest-most (value_of σ b *ℤ value_of σ q) (value_of σ a) (value_of σ r) (high_of a) is product (high-ge σ a)), tt),
          ),
        )
      where
        below-high : (v w x : ℤ) → v <ℤ w → w ≤ℤ x → v <ℤ x
        below-high v w x lt le = omega (arith, ints, lt, le)

    sums-le : (p q r s va vr : ℤ) → va ≡ q +ℤ vr → p ≤ℤ q → s ≤ℤ vr → (p +ℤ s) ≤ℤ va
    sums-le p q r s va vr e h k = omega (arith, ints, e, h, k)

    sums-ge : (p q s va vr : ℤ) → va ≡ q +ℤ vr → q ≤ℤ p → vr ≤ℤ s → va ≤ℤ (p +ℤ s)
    sums-ge p q s va vr e h k = omega (arith, ints, e, h, k)

    -- a product of numbers from 0 keeps the order on both sides
    pub products-le : (x y x' y' : ℤ) → pos 0 ≤ℤ x → pos 0 ≤ℤ y' → x ≤ℤ x' → y ≤ℤ y' → (x *ℤ y) ≤ℤ (x' *ℤ y')
    products-le x y x' y' hx hy le le' =
        le-le (x *ℤ y) (x *ℤ y') (x' *ℤ y') (times-up x y y' hx le')
        (subst (λ z. z ≤ℤ (x' *ℤ y')) (*ℤ_comm y' x) (subst (λ z. (y' *ℤ x) ≤ℤ z) (*ℤ_comm y' x') (times-up y' x x' hy le)))

    dividend-equal : AreEqual σ (dividend_equations a b q r)
    dividend-equal =
        AreEqual-only_if σ (int_le (pos 0) (low_of q) && int_le (pos 0) (low_of r)) (within a (low_of q *ℤ low_of b +ℤ low_of r) (high_of q *ℤ high_of b +ℤ high_of r)) (λ e.
        let lq = le_from_test (pos 0) (low_of q) (and-left (int_le (pos 0) (low_of q)) (int_le (pos 0) (low_of r)) e) in
        let swapped : value_of σ a ≡ (value_of σ q *ℤ value_of σ b) +ℤ value_of σ r = is ∙ ap (λ z. z +ℤ value_of σ r) (*ℤ_comm (value_of σ b) (value_of σ q)) in
        within-equal σ a (low_of q *ℤ low_of b +ℤ low_of r) (high_of q *ℤ high_of b +ℤ high_of r) oa
        (sums-le (low_of q *ℤ low_of b) (value_of σ q *ℤ value_of σ b) (pos 0) (low_of r) (value_of σ a) (value_of σ r) swapped
        (products-le (low_of q) (low_of b) (value_of σ q) (value_of σ b) lq (one-zero (value_of σ b) vb) (low-le σ q) (low-le σ b)) (low-le σ r))
        (sums-ge (high_of q *ℤ high_of b) (value_of σ q *ℤ value_of σ b) (high_of r) (value_of σ a) (value_of σ r) swapped
        (products-le (value_of σ q) (value_of σ b) (high_of q) (high_of b) vq (one-zero (high_of b) hb) (high-ge σ q) (high-ge σ b)) (high-ge σ r)))

    pub div_mod-equal : AreEqual σ (div_mod_equations a b q r)
    div_mod-equal = AreEqual-append σ (quotient_equations a b q r) (dividend_equations a b q r) quotient-equal dividend-equal
