-- Each equation of a product by a constant is made or stated in every view.
use Rattle.std.proofs.Common.{◌≡◌, true, List, ◌++◌, map, ℤ, pos, neg_ℤ, ◌+ℤ◌, ◌*ℤ◌, ◌≤ℤ◌, ◌<ℤ◌, sym, subst, ◌∙◌, arith}
use Rattle.std.specs.Prelude.{int_lt}
use Rattle.std.proofs.lemmas.Int.{ints}
use Rattle.order_ints.specs.declared.atom.Atom.{Atom}
use Rattle.order_ints.specs.declared.order_int.OrdInt.{OrdInt}
use Rattle.order_ints.specs.Truth.{not_atom}
use Rattle.order_ints.specs.OrderRange.{low_of}
use Rattle.order_ints.specs.OrderLevels.{at_of}
use Rattle.order_ints.proofs.Comparisons.{int_le-true, le_from_test}
use Rattle.core_forms.specs.declared.equation.Rule.TheVariants.{Form}
use Rattle.core_forms.specs.declared.form.Core.TheVariants.{Prod}
use Rattle.core_forms.specs.Trimmed.{trimmed_int}
use Rattle.rule_base.specs.Pairs.{only_if}
use Rattle.rule_base.specs.Constant.{is_constant}
use Rattle.arith_rules.specs.Links.{linked, linked_back, opposed, opposed_above}
use Rattle.arith_rules.specs.ProductRows.{floor_of, ceiling_of, multiple_equations, negative_equations, scaled_equations, prod_ranges}
use Rattle.arith_rules.proofs.ProductLaws.{times-test, ceiling-test, negative-test, negative-floor}
use Rattle.equation_runs.specs.RunRows.{equation_of, prod_constants}
use Rattle.equation_runs.proofs.AtTrimmed.{constant-stays, low-stays}
use Rattle.equation_runs.proofs.LinkedAt.{MoveTogether, MoveApart}
use Rattle.equation_runs.proofs.LinkLists.{IsWithin, IsOneOrListed, listed-left, listed-right, listed-if, together-listed, apart-listed, EachPair, each-append, each-if, each-linked, each-linked_back, each-opposed, each-opposed_above}
use Rattle.equation_runs.proofs.LaterTurns.{AreToldAlways}
use Rattle.equation_runs.proofs.Always.{Told, IsLinked, linked-at, opposed-at, arith_listed, arith-always}

both-ways : (x y : ℤ) → x ≤ℤ y → y ≤ℤ x → x ≡ y
both-ways x y le ge = omega (arith, ints, le, ge)

itself : (x : ℤ) → x ≤ℤ x
itself x = omega (arith, ints)

from-lt : (k : ℤ) → int_lt (pos 0) k ≡ true → pos 1 ≤ℤ k
from-lt k e = grind (arith, ints)

below-lt : (k : ℤ) → int_lt k (pos 0) ≡ true → k <ℤ pos 0
below-lt k e = grind (arith, ints)

-- multiples by a number from 1, and by one below 0
together : (k : ℤ) → pos 1 ≤ℤ k → MoveTogether (λ w. ceiling_of w k) (λ v. k *ℤ v)
together k one = record { tests = λ w v. ceiling-test w v k one; back = back }
  where
    back : (v : ℤ) → ceiling_of (k *ℤ v) k ≡ v
    back v =
        let c = ceiling_of (k *ℤ v) k in
        both-ways c v
        (le_from_test c v (ceiling-test (k *ℤ v) v k one ∙ int_le-true (k *ℤ v) (k *ℤ v) (itself (k *ℤ v))))
        (le_from_test v c (times-test k v c one ∙ sym (ceiling-test (k *ℤ v) c k one) ∙ int_le-true c c (itself c)))

apart : (k : ℤ) → k <ℤ pos 0 → MoveApart (λ w. floor_of (neg_ℤ w) (neg_ℤ k)) (λ v. k *ℤ v)
apart k neg = record { tests = λ w v. sym (negative-floor k w v neg); back = back }
  where
    back : (v : ℤ) → floor_of (neg_ℤ (k *ℤ v)) (neg_ℤ k) ≡ v
    back v =
        let c = floor_of (neg_ℤ (k *ℤ v)) (neg_ℤ k) in
        both-ways c v
        (le_from_test c v (sym (negative-test k v c neg) ∙ negative-floor k (k *ℤ v) c neg ∙ int_le-true c c (itself c)))
        (le_from_test v c (sym (negative-floor k (k *ℤ v) v neg) ∙ int_le-true (k *ℤ v) (k *ℤ v) (itself (k *ℤ v))))

-- of two integers, at numbers that belong together
scaled-together : (k : ℤ) (b c : OrdInt) (ps : List (Atom × Atom)) → int_lt (pos 0) k ≡ true → IsWithin (scaled_equations k b c) ps → (w : ℤ) → IsOneOrListed (at_of c w) (at_of b (ceiling_of w k)) ps
scaled-together k b c ps up within =
    together-listed (λ w. ceiling_of w k) (λ v. k *ℤ v) (together k (from-lt k up)) c b ps
    (λ x y e. inside x y (listed-right x y (linked_back (λ v. k *ℤ v) b c) (linked (λ w. ceiling_of w k) c b) e))
    (λ x y e. inside x y (listed-left x y (linked_back (λ v. k *ℤ v) b c) (linked (λ w. ceiling_of w k) c b) e))
  where
    inside : IsWithin (multiple_equations k b c) ps
    inside x y e =
        within x y (listed-left x y (only_if (int_lt (pos 0) k) (multiple_equations k b c)) (only_if (int_lt k (pos 0)) (negative_equations k b c))
        (listed-if x y (int_lt (pos 0) k) (multiple_equations k b c) up e))

scaled-apart : (k : ℤ) (b c : OrdInt) (ps : List (Atom × Atom)) → int_lt k (pos 0) ≡ true → IsWithin (scaled_equations k b c) ps → (w : ℤ) → IsOneOrListed (at_of c w) (not_atom (at_of b (floor_of (neg_ℤ w) (neg_ℤ k) +ℤ pos 1))) ps
scaled-apart k b c ps down within =
    apart-listed (λ w. floor_of (neg_ℤ w) (neg_ℤ k)) (λ v. k *ℤ v) (apart k (below-lt k down)) c b ps
    (λ x y e. inside x y (listed-right x y (opposed_above (λ v. k *ℤ v) b c) (opposed (λ w. floor_of (neg_ℤ w) (neg_ℤ k) +ℤ pos 1) c b) e))
    (λ x y e. inside x y (listed-left x y (opposed_above (λ v. k *ℤ v) b c) (opposed (λ w. floor_of (neg_ℤ w) (neg_ℤ k) +ℤ pos 1) c b) e))
  where
    inside : IsWithin (negative_equations k b c) ps
    inside x y e =
        within x y (listed-right x y (only_if (int_lt (pos 0) k) (multiple_equations k b c)) (only_if (int_lt k (pos 0)) (negative_equations k b c))
        (listed-if x y (int_lt k (pos 0)) (negative_equations k b c) down e))

-- what holds at all numbers that belong together holds of each pair
each-scaled : (P : Atom → Atom → Type 0) (k : ℤ) (b c : OrdInt)
    → (int_lt (pos 0) k ≡ true → (w : ℤ) → P (at_of c w) (at_of b (ceiling_of w k)))
    → (int_lt k (pos 0) ≡ true → (w : ℤ) → P (at_of c w) (not_atom (at_of b (floor_of (neg_ℤ w) (neg_ℤ k) +ℤ pos 1))))
    → EachPair P (scaled_equations k b c)
each-scaled P k b c up down =
    each-append P (only_if (int_lt (pos 0) k) (multiple_equations k b c)) (only_if (int_lt k (pos 0)) (negative_equations k b c))
    (each-if P (int_lt (pos 0) k) (multiple_equations k b c)
    (λ e. each-append P (linked_back (λ v. k *ℤ v) b c) (linked (λ w. ceiling_of w k) c b)
    (each-linked_back P (λ w. ceiling_of w k) (λ v. k *ℤ v) (together k (from-lt k e)) c b (up e))
    (each-linked P (λ w. ceiling_of w k) c b (up e))))
    (each-if P (int_lt k (pos 0)) (negative_equations k b c)
    (λ e. each-append P (opposed_above (λ v. k *ℤ v) b c) (opposed (λ w. floor_of (neg_ℤ w) (neg_ℤ k) +ℤ pos 1) c b)
    (each-opposed_above P (λ w. floor_of (neg_ℤ w) (neg_ℤ k)) (λ v. k *ℤ v) (apart k (below-lt k e)) c b (down e))
    (each-opposed P (λ w. floor_of (neg_ℤ w) (neg_ℤ k) +ℤ pos 1) c b (down e))))

-- where the first factor k is constant in every view, with its links listed
scaled-linked : (listed : List Atom → List (Atom × Atom)) (k : ℤ) (b c : OrdInt)
    → ((view : List Atom) → IsWithin (scaled_equations k (trimmed_int view b) (trimmed_int view c)) (listed view))
    → EachPair (IsLinked listed) (scaled_equations k b c)
scaled-linked listed k b c within =
    each-scaled (IsLinked listed) k b c
    (λ up w. linked-at listed c b w (ceiling_of w k) (λ view. scaled-together k (trimmed_int view b) (trimmed_int view c) (listed view) up (within view) w))
    (λ down w. opposed-at listed c b w (floor_of (neg_ℤ w) (neg_ℤ k) +ℤ pos 1) (λ view. scaled-apart k (trimmed_int view b) (trimmed_int view c) (listed view) down (within view) w))

module _ (a b c : OrdInt) where
  first-within : is_constant a ≡ true → (view : List Atom) → IsWithin (scaled_equations (low_of a) (trimmed_int view b) (trimmed_int view c)) (arith_listed (Prod a b c) view)
  first-within is view =
      subst (λ (k : ℤ). IsWithin (scaled_equations k q r) (arith_listed (Prod a b c) view)) (low-stays view a is)
      (λ x y e. listed-left x y (prod_ranges p q r ++ only_if (is_constant p) (scaled_equations (low_of p) q r)) (only_if (is_constant q) (scaled_equations (low_of q) p r))
      (listed-right x y (prod_ranges p q r) (only_if (is_constant p) (scaled_equations (low_of p) q r))
      (listed-if x y (is_constant p) (scaled_equations (low_of p) q r) (constant-stays view a is) e)))
    where
      p : OrdInt
      p = trimmed_int view a

      q : OrdInt
      q = trimmed_int view b

      r : OrdInt
      r = trimmed_int view c

  second-within : is_constant b ≡ true → (view : List Atom) → IsWithin (scaled_equations (low_of b) (trimmed_int view a) (trimmed_int view c)) (arith_listed (Prod a b c) view)
  second-within is view =
      subst (λ (k : ℤ). IsWithin (scaled_equations k p r) (arith_listed (Prod a b c) view)) (low-stays view b is)
      (λ x y e. listed-right x y (prod_ranges p q r ++ only_if (is_constant p) (scaled_equations (low_of p) q r)) (only_if (is_constant q) (scaled_equations (low_of q) p r))
      (listed-if x y (is_constant q) (scaled_equations (low_of q) p r) (constant-stays view b is) e))
    where
      p : OrdInt
      p = trimmed_int view a

      q : OrdInt
      q = trimmed_int view b

      r : OrdInt
      r = trimmed_int view c

  pub product-turn : AreToldAlways Told (Prod a b c) (map (equation_of Form) (prod_constants a b c))
  product-turn =
      arith-always (Prod a b c) (prod_constants a b c)
      (each-append (IsLinked listed) (only_if (is_constant a) (scaled_equations (low_of a) b c)) (only_if (is_constant b) (scaled_equations (low_of b) a c))
      (each-if (IsLinked listed) (is_constant a) (scaled_equations (low_of a) b c) (λ is. scaled-linked listed (low_of a) b c (first-within is)))
      (each-if (IsLinked listed) (is_constant b) (scaled_equations (low_of b) a c) (λ is. scaled-linked listed (low_of b) a c (second-within is))))
    where
      listed : List Atom → List (Atom × Atom)
      listed = arith_listed (Prod a b c)
