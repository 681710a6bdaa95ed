-- The equations of a greatest member hold where it is met.
use Rattle.std.proofs.Common.{◌≡◌, ℕ, ◌+◌, ◌≤◌, ◌==◌, Bool, true, false, ◌&&◌, ◌||◌, cond, List, [], ◌∷◌, ◌++◌, map, append_assoc, ℤ, pos, ◌+ℤ◌, ◌≤ℤ◌, ◌<ℤ◌, refl, sym, ap, subst, ◌∙◌, arith}
use Rattle.std.specs.Prelude.{int_le, nat_le, filter, IsTrue}
use Rattle.std.specs.Ordering.{int_eq}
use Rattle.std.proofs.lemmas.Int.{ints}
use Rattle.std.proofs.lemmas.Bool.Decides.{nat_tests}
use Rattle.order_ints.specs.declared.atom.Atom.{Atom}
use Rattle.order_ints.specs.declared.atom.Atom.TheVariants.{False}
use Rattle.order_ints.specs.declared.order_int.OrdInt.{OrdInt}
use Rattle.order_ints.specs.Truth.{Valuation, atom_truth}
use Rattle.order_ints.specs.OrderValue.{value_of, in_order, IsOrdered}
use Rattle.order_ints.specs.OrderRange.{low_of, high_of}
use Rattle.order_ints.specs.OrderLevels.{values_of, at_of, is_among}
use Rattle.order_ints.proofs.Gains.{low-le, high-ge}
use Rattle.order_ints.proofs.Comparisons.{int_le-true, int_le-false, by_int_le}
use Rattle.core_forms.specs.Values.{all_ordered, values, all_at_most, is_greatest}
use Rattle.rule_base.specs.Pairs.{only_if, AreEqual}
use Rattle.rule_base.proofs.PairLaws.{AreEqual-append, AreEqual-only_if}
use Rattle.rule_base.proofs.StatedLaws.{at_of-reached, at_of-passed}
use Rattle.arith_rules.specs.Links.{alike_where, alike_back}
use Rattle.arith_rules.specs.MaxRows.{member_ranges, top_from, top_equations, reaching, is_sole, linked_equations, leader_equations, unreached_equations, max_equations}
use Rattle.arith_rules.proofs.Turned.{alike_back-equal}
use Rattle.arith_rules.proofs.LinkSound.{alike-equal}

and-left : (s t : Bool) → (s && t) ≡ true → s ≡ true
and-left true t h = refl
and-left false t h = absurd (cc)

and-right : (s t : Bool) → (s && t) ≡ true → t ≡ true
and-right true t h = h
and-right false t h = absurd (cc)

or-cases : {X : Type 0} (s t : Bool) → (s || t) ≡ true → (s ≡ true → X) → (t ≡ true → X) → X
or-cases true t h here there = here refl
or-cases false t h here there = there h

le-true : (v w : ℤ) → int_le v w ≡ true → v ≤ℤ w
le-true v w h = grind (arith, ints)

eq-true : (v w : ℤ) → int_eq v w ≡ true → v ≡ w
eq-true v w h = grind (arith, ints)

at-most : (m n : ℕ) → nat_le m n ≡ true → m ≤ n
at-most m n h = grind (arith, nat_tests)

is-zero : (m : ℕ) → (m == 0) ≡ true → m ≡ 0
is-zero m h = grind (arith, nat_tests)

-- a list's members that pass a test
equal-filtered : (σ : Valuation) (f : ℤ → Atom × Atom) (test : ℤ → Bool) (vs : List ℤ) → ((v : ℤ) → test v ≡ true → atom_truth σ (f v).0 ≡ atom_truth σ (f v).1) → AreEqual σ (map f (filter test vs))
equal-filtered σ f test [] each = tt
equal-filtered σ f test (v ∷ vs) each = by (test v) refl (equal-filtered σ f test vs each)
  where
    by : (t : Bool) → test v ≡ t → AreEqual σ (map f (filter test vs)) → AreEqual σ (map f (cond t (v ∷ filter test vs) (filter test vs)))
    by true e rest = (each v e, rest)
    by false e rest = rest

-- how many of joined lists reach a value
reaching-append : (v : ℤ) (xs ys : List OrdInt) → reaching v (xs ++ ys) ≡ reaching v xs + reaching v ys
reaching-append v [] ys = omega arith
reaching-append v (a ∷ xs) ys = omega (arith, reaching-append v xs ys)

-- one that reaches a value counts
counted : (v w : ℤ) → v ≤ℤ w → ◌≡◌ {A = ℕ} (cond (int_le v w) 1 0) 1
counted v w h = let one : Bool → ℕ = λ t. cond t 1 0 in ap one (int_le-true v w h)

module _ (σ : Valuation) (c : OrdInt) where
  top-up : (top : ℤ) (xs : List OrdInt) → top ≤ℤ top_from top xs
  top-up top [] = omega (arith, ints)
  top-up top (a ∷ xs) =
      by_int_le top (high_of a) (high_of a) top (λ t. top ≤ℤ top_from t xs)
      (λ le. let up = top-up (high_of a) xs in omega (arith, ints, le, up)) (λ _. top-up top xs)

  -- a value among those of members is at most their top
  among-top : (top v : ℤ) (xs : List OrdInt) → is_among v (values σ xs) ≡ true → v ≤ℤ top_from top xs
  among-top top v [] h = absurd (cc)
  among-top top v (a ∷ xs) h =
      or-cases (int_eq (value_of σ a) v) (is_among v (values σ xs)) h
      (λ e. let is = eq-true (value_of σ a) v e in let high = high-ge σ a in
      by_int_le top (high_of a) (high_of a) top (λ t. v ≤ℤ top_from t xs)
      (λ _. let up = top-up (high_of a) xs in omega (arith, ints, is, high, up))
      (λ lt. let up = top-up top xs in omega (arith, ints, is, high, lt, up)))
      (λ more. by_int_le top (high_of a) (high_of a) top (λ t. v ≤ℤ top_from t xs) (λ _. among-top (high_of a) v xs more) (λ _. among-top top v xs more))

  -- where a value is among those of members, one of them at least reaches each that is not above it
  among-reaches : (v w : ℤ) (xs : List OrdInt) → is_among v (values σ xs) ≡ true → w ≤ℤ v → 1 ≤ reaching w xs
  among-reaches v w [] h le = absurd (cc)
  among-reaches v w (a ∷ xs) h le =
      or-cases (int_eq (value_of σ a) v) (is_among v (values σ xs)) h
      (λ e. let is = eq-true (value_of σ a) v e in let high = high-ge σ a in
      let one = counted w (high_of a) (omega (arith, ints, is, high, le)) in omega (arith, one))
      (λ more. let rest = among-reaches v w xs more le in omega (arith, rest))

  -- where the value of c is above that of no member
  ranges-equal : (xs : List OrdInt) → IsOrdered σ c → IsTrue (all_ordered σ xs) → all_at_most (value_of σ c) (values σ xs) ≡ true → AreEqual σ (member_ranges c xs)
  ranges-equal [] oc order most = tt
  ranges-equal (a ∷ xs) oc order most =
      let oa : IsOrdered σ a = and-left (in_order σ a.steps) (all_ordered σ xs) order in
      let le = le-true (value_of σ a) (value_of σ c) (and-left (int_le (value_of σ a) (value_of σ c)) (all_at_most (value_of σ c) (values σ xs)) most) in (
        at_of-reached σ c (low_of a) oc (omega (arith, ints, le, low-le σ a)),
        (
          at_of-passed σ a (high_of c +ℤ pos 1) oa (omega (arith, ints, le, high-ge σ c)),
          ranges-equal xs oc (and-right (in_order σ a.steps) (all_ordered σ xs) order) (and-right (int_le (value_of σ a) (value_of σ c)) (all_at_most (value_of σ c) (values σ xs)) most),
        ),
      )

  top-equal : (xs : List OrdInt) → IsOrdered σ c → is_among (value_of σ c) (values σ xs) ≡ true → AreEqual σ (top_equations c xs)
  top-equal [] oc among = tt
  top-equal (a ∷ xs) oc among =
      let le : value_of σ c ≤ℤ top_from (high_of a) xs =
      or-cases (int_eq (value_of σ a) (value_of σ c)) (is_among (value_of σ c) (values σ xs)) among
      (λ e. let is = eq-true (value_of σ a) (value_of σ c) e in let up = top-up (high_of a) xs in omega (arith, ints, is, up, high-ge σ a))
      (λ more. among-top (high_of a) (value_of σ c) xs more) in
      (at_of-passed σ c (top_from (high_of a) xs +ℤ pos 1) oc (omega (arith, ints, le)), tt)

  unreached-equal : (xs : List OrdInt) → IsOrdered σ c → is_among (value_of σ c) (values σ xs) ≡ true → AreEqual σ (unreached_equations c xs)
  unreached-equal xs oc among =
      equal-filtered σ (λ v. (at_of c v, False)) (λ v. reaching v xs == 0) (values_of c) (λ v e.
      by_int_le v (value_of σ c) true false (λ t. atom_truth σ (at_of c v) ≡ false)
      (λ le. absurd (let some = among-reaches (value_of σ c) v xs among le in let none = is-zero (reaching v xs) e in omega (arith, some, none)))
      (λ lt. at_of-passed σ c v oc lt))

  -- among the members of the first list, a, and the second, with a alone reaching its greatest value: where at most one
  -- reaches v, c and a reach v both or none
  module _ (xs ys : List OrdInt) (a : OrdInt) (le : value_of σ a ≤ℤ value_of σ c) (among : is_among (value_of σ c) (values σ (xs ++ a ∷ ys)) ≡ true)
      (leads : reaching (high_of a) (xs ++ a ∷ ys) ≤ 1) (v : ℤ) (sole : reaching v (xs ++ a ∷ ys) ≤ 1) where
    others-none : (reaching (high_of a) xs ≡ 0) × (reaching (high_of a) ys ≡ 0)
    others-none =
        let parts = reaching-append (high_of a) xs (a ∷ ys) in
        let one = counted (high_of a) (high_of a) (omega (arith, ints)) in
        (omega (arith, parts, one, leads), omega (arith, parts, one, leads))

    -- a value of the others is reached by a too
    other : (zs : List OrdInt) → reaching (high_of a) zs ≡ 0 → is_among (value_of σ c) (values σ zs) ≡ true → reaching v zs + cond (int_le v (high_of a)) 1 0 ≤ 1 → value_of σ c <ℤ v
    other zs none there few =
        by_int_le v (value_of σ c) true false (λ t. value_of σ c <ℤ v)
        (λ under. absurd (
        let some = among-reaches (value_of σ c) v zs there under in
        by_int_le (high_of a) (value_of σ c) true false (λ t. ⊥)
        (λ high. let more = among-reaches (value_of σ c) (high_of a) zs there high in omega (arith, more, none))
        (λ low. let one = counted v (high_of a) (omega (arith, ints, under, low)) in omega (arith, some, one, few))))
        (λ over. over)

    both-passed : value_of σ c <ℤ v → int_le v (value_of σ c) ≡ int_le v (value_of σ a)
    both-passed lt = int_le-false v (value_of σ c) lt ∙ sym (int_le-false v (value_of σ a) (omega (arith, ints, lt, le)))

    among-cases : (zs : List OrdInt) → is_among (value_of σ c) (values σ (zs ++ a ∷ ys)) ≡ true → {X : Type 0} → (is_among (value_of σ c) (values σ zs) ≡ true → X) → (value_of σ a ≡ value_of σ c → X) → (is_among (value_of σ c) (values σ ys) ≡ true → X) → X
    among-cases [] h first here last =
        or-cases (int_eq (value_of σ a) (value_of σ c)) (is_among (value_of σ c) (values σ ys)) h (λ e. here (eq-true (value_of σ a) (value_of σ c) e)) last
    among-cases (z ∷ zs) h {X = X} first here last =
        or-cases (int_eq (value_of σ z) (value_of σ c)) (is_among (value_of σ c) (values σ (zs ++ a ∷ ys))) h
        (λ e. first (ap (λ t. t || is_among (value_of σ c) (values σ zs)) e))
        (λ more. among-cases zs more {X = X} (λ m. first (ap (λ t. int_eq (value_of σ z) (value_of σ c) || t) m ∙ or-true (int_eq (value_of σ z) (value_of σ c)))) here last)
      where
        or-true : (s : Bool) → (s || true) ≡ true
        or-true true = refl
        or-true false = refl

    linked-test : int_le v (value_of σ c) ≡ int_le v (value_of σ a)
    linked-test =
        let parts = reaching-append v xs (a ∷ ys) in
        among-cases xs among {X = int_le v (value_of σ c) ≡ int_le v (value_of σ a)}
        (λ there. both-passed (other xs others-none.0 there (omega (arith, parts, sole))))
        (λ e. ap (int_le v) (sym e))
        (λ there. both-passed (other ys others-none.1 there (omega (arith, parts, sole))))

  leaders-equal : (all xs ys : List OrdInt) → xs ++ ys ≡ all → IsOrdered σ c → IsTrue (all_ordered σ ys) → all_at_most (value_of σ c) (values σ ys) ≡ true → is_among (value_of σ c) (values σ all) ≡ true → AreEqual σ (leader_equations c all ys)
  leaders-equal all xs [] parts oc order most among = tt
  leaders-equal all xs (a ∷ ys) parts oc order most among =
      let oa : IsOrdered σ a = and-left (in_order σ a.steps) (all_ordered σ ys) order in
      let le = le-true (value_of σ a) (value_of σ c) (and-left (int_le (value_of σ a) (value_of σ c)) (all_at_most (value_of σ c) (values σ ys)) most) in
      let whole : is_sole all (high_of a) ≡ true → (v : ℤ) → is_sole all v ≡ true → int_le v (value_of σ c) ≡ int_le v (value_of σ a) =
      λ leads v sole. linked-test xs ys a le (subst (λ (zs : List OrdInt). is_among (value_of σ c) (values σ zs) ≡ true) (sym parts) among)
      (subst (λ (zs : List OrdInt). reaching (high_of a) zs ≤ 1) (sym parts) (at-most (reaching (high_of a) all) 1 leads)) v
      (subst (λ (zs : List OrdInt). reaching v zs ≤ 1) (sym parts) (at-most (reaching v all) 1 sole)) in
      AreEqual-append σ (only_if (is_sole all (high_of a)) (linked_equations c a all)) (leader_equations c all ys)
      (AreEqual-only_if σ (is_sole all (high_of a)) (linked_equations c a all) (λ leads.
      AreEqual-append σ (alike_where (is_sole all) c a) (alike_back (is_sole all) a c)
      (alike-equal σ c a oc oa (is_sole all) (whole leads)) (alike_back-equal σ (is_sole all) a c (alike-equal σ a c oa oc (is_sole all) (λ v sole. sym (whole leads v sole))))))
      (leaders-equal all (xs ++ a ∷ []) ys (append_assoc xs (a ∷ []) ys ∙ parts) oc
      (and-right (in_order σ a.steps) (all_ordered σ ys) order) (and-right (int_le (value_of σ a) (value_of σ c)) (all_at_most (value_of σ c) (values σ ys)) most) among)

  -- c is the greatest of the members
  pub max-equal : (xs : List OrdInt) → IsOrdered σ c → IsTrue (all_ordered σ xs) → is_greatest (value_of σ c) (values σ xs) ≡ true → AreEqual σ (max_equations xs c)
  max-equal xs oc order greatest =
      let among = and-left (is_among (value_of σ c) (values σ xs)) (all_at_most (value_of σ c) (values σ xs)) greatest in
      let most = and-right (is_among (value_of σ c) (values σ xs)) (all_at_most (value_of σ c) (values σ xs)) greatest in
      AreEqual-append σ (member_ranges c xs ++ top_equations c xs ++ unreached_equations c xs) (leader_equations c xs xs)
      (AreEqual-append σ (member_ranges c xs ++ top_equations c xs) (unreached_equations c xs)
      (AreEqual-append σ (member_ranges c xs) (top_equations c xs) (ranges-equal xs oc order most) (top-equal xs oc among))
      (unreached-equal xs oc among))
      (leaders-equal xs [] xs refl oc order most among)
