-- The equations of comparisons of two integers hold where these are met.
use Rattle.std.proofs.Common.{◌≡◌, ℕ, zero, suc, ◌<◌, Bool, true, false, not, ◌||◌, List, [], ◌∷◌, ◌++◌, map, length, get_or, ℤ, pos, ◌+ℤ◌, ◌≤ℤ◌, ◌<ℤ◌, refl, sym, ap, ◌∙◌, arith}
use Rattle.std.specs.Prelude.{int_le, int_lt}
use Rattle.std.specs.Ordering.{int_eq}
use Rattle.std.proofs.lemmas.Int.{ints}
use Rattle.order_ints.specs.declared.atom.Atom.{Atom}
use Rattle.order_ints.specs.declared.atom.Atom.TheVariants.{True, False}
use Rattle.order_ints.specs.declared.order_int.OrdInt.{OrdInt}
use Rattle.order_ints.specs.Truth.{Valuation, atom_truth, not_atom}
use Rattle.order_ints.specs.OrderValue.{value_of, IsOrdered}
use Rattle.order_ints.specs.OrderRange.{low_of, high_of}
use Rattle.order_ints.specs.OrderLevels.{values_of, at_of, is_among}
use Rattle.order_ints.specs.Walk.{has_value}
use Rattle.order_ints.specs.Same.{is_true, is_false, same_int}
use Rattle.order_ints.specs.Equality.{is_true-True, is_false-False, same_int-tells}
use Rattle.order_ints.proofs.Gains.{low-le, high-ge}
use Rattle.order_ints.proofs.Truths.{atom_truth-not_atom}
use Rattle.order_ints.proofs.Reaching.{atom_truth-at_of, Contains-value_of}
use Rattle.rule_base.specs.Pairs.{only_if, AreEqual}
use Rattle.rule_base.specs.Stated.{at_least, is_below, is_not}
use Rattle.rule_base.proofs.PairLaws.{AreEqual-append, AreEqual-only_if, AreEqual-map}
use Rattle.rule_base.proofs.ConstantLaws.{constant-value}
use Rattle.rule_base.proofs.StatedLaws.{at_least-equal, is_below-equal, is_not-equal}
use Rattle.rule_base.specs.Constant.{is_constant}
use Rattle.equi_rules.specs.CompareRows.{leq_equations_true, leq_equations_false, leq_equations_known, leq_equations_decided, leq_equations_constant, leq_equations, equal_at, eq_equations_true, eq_equations_apart, eq_equations_value, eq_equations_constant, eq_equations}

-- what the truth of a comparison is worth
le-true : (v w : ℤ) → int_le v w ≡ true → v ≤ℤ w
le-true v w h = grind (arith, ints)

le-false : (v w : ℤ) → int_le v w ≡ false → w <ℤ v
le-false v w h = grind (arith, ints)

lt-true : (v w : ℤ) → int_lt v w ≡ true → v <ℤ w
lt-true v w h = grind (arith, ints)

is-le : (v w : ℤ) → v ≤ℤ w → int_le v w ≡ true
is-le v w h = grind (arith, ints)

not-le : (v w : ℤ) → w <ℤ v → int_le v w ≡ false
not-le v w h = grind (arith, ints)

not-above : (v w : ℤ) → int_le v w ≡ not (int_le (w +ℤ pos 1) v)
not-above v w = grind (arith, ints)

module _ (σ : Valuation) (r : Atom) (a b : OrdInt) (oa : IsOrdered σ a) (ob : IsOrdered σ b) where
  truth-True : is_true r ≡ true → atom_truth σ r ≡ true
  truth-True h = ap (atom_truth σ) (is_true-True r h)

  truth-False : is_false r ≡ true → atom_truth σ r ≡ false
  truth-False h = ap (atom_truth σ) (is_false-False r h)

  leq-true : value_of σ a ≤ℤ value_of σ b → AreEqual σ (leq_equations_true a b)
  leq-true le =
      AreEqual-append σ (is_below a (high_of b +ℤ pos 1) ∷ []) (at_least b (low_of a) ∷ [])
      (is_below-equal σ a (high_of b +ℤ pos 1) oa (omega (arith, ints, le, high-ge σ b)))
      (at_least-equal σ b (low_of a) ob (omega (arith, ints, le, low-le σ a)))

  leq-false : value_of σ b <ℤ value_of σ a → AreEqual σ (leq_equations_false a b)
  leq-false lt =
      AreEqual-append σ (at_least a (low_of b +ℤ pos 1) ∷ []) (is_below b (high_of a) ∷ [])
      (at_least-equal σ a (low_of b +ℤ pos 1) oa (omega (arith, ints, lt, low-le σ b)))
      (is_below-equal σ b (high_of a) ob (omega (arith, ints, lt, high-ge σ a)))

  -- where r is the truth of the first value being at most the second
  module _ (is : atom_truth σ r ≡ int_le (value_of σ a) (value_of σ b)) where
    leq-decided : AreEqual σ (leq_equations_decided r a b)
    leq-decided =
        AreEqual-append σ (only_if (int_le (high_of a) (low_of b)) ((r, True) ∷ [])) (only_if (int_lt (high_of b) (low_of a)) ((r, False) ∷ []))
        (AreEqual-only_if σ (int_le (high_of a) (low_of b)) ((r, True) ∷ []) (λ e.
        let le = le-true (high_of a) (low_of b) e in
        (is ∙ is-le (value_of σ a) (value_of σ b) (omega (arith, ints, le, high-ge σ a, low-le σ b)), tt)))
        (AreEqual-only_if σ (int_lt (high_of b) (low_of a)) ((r, False) ∷ []) (λ e.
        let lt = lt-true (high_of b) (low_of a) e in
        (is ∙ not-le (value_of σ a) (value_of σ b) (omega (arith, ints, lt, high-ge σ b, low-le σ a)), tt)))

    leq-constant : AreEqual σ (leq_equations_constant r a b)
    leq-constant =
        AreEqual-append σ (only_if (is_constant a) ((r, at_of b (low_of a)) ∷ [])) (only_if (is_constant b) ((r, not_atom (at_of a (low_of b +ℤ pos 1))) ∷ []))
        (AreEqual-only_if σ (is_constant a) ((r, at_of b (low_of a)) ∷ []) (λ e.
        (is ∙ ap (λ v. int_le v (value_of σ b)) (constant-value σ a e) ∙ sym (atom_truth-at_of σ b (low_of a) ob), tt)))
        (AreEqual-only_if σ (is_constant b) ((r, not_atom (at_of a (low_of b +ℤ pos 1))) ∷ []) (λ e. (
          is ∙ ap (int_le (value_of σ a)) (constant-value σ b e) ∙ not-above (value_of σ a) (low_of b)
              ∙ ap not (sym (atom_truth-at_of σ a (low_of b +ℤ pos 1) oa)) ∙ sym (atom_truth-not_atom σ (at_of a (low_of b +ℤ pos 1))),
          tt,
        )))

    leq-known : AreEqual σ (leq_equations_known r a b)
    leq-known =
        AreEqual-append σ (only_if (is_true r) (leq_equations_true a b)) (only_if (is_false r) (leq_equations_false a b))
        (AreEqual-only_if σ (is_true r) (leq_equations_true a b) (λ e. leq-true (le-true (value_of σ a) (value_of σ b) (sym is ∙ truth-True e))))
        (AreEqual-only_if σ (is_false r) (leq_equations_false a b) (λ e. leq-false (le-false (value_of σ a) (value_of σ b) (sym is ∙ truth-False e))))

    pub leq-equal : AreEqual σ (leq_equations r a b)
    leq-equal =
        AreEqual-append σ (leq_equations_known r a b ++ leq_equations_decided r a b) (leq_equations_constant r a b)
        (AreEqual-append σ (leq_equations_known r a b) (leq_equations_decided r a b) leq-known leq-decided)
        leq-constant

eq-true : (v w : ℤ) → int_eq v w ≡ true → v ≡ w
eq-true v w h = grind (arith, ints)

not-eq : (v w : ℤ) → (w ≡ v → ⊥) → int_eq v w ≡ false
not-eq v w h = grind (arith, ints)

eq-false : (v w : ℤ) → int_eq v w ≡ false → w ≡ v → ⊥
eq-false v w h e = absurd (grind (arith, ints))

is-eq : (v w : ℤ) → v ≡ w → int_eq v w ≡ true
is-eq v w h = grind (arith, ints)

at-low : (v w : ℤ) → v ≤ℤ w → int_eq v w ≡ not (int_le (v +ℤ pos 1) w)
at-low v w h = grind (arith, ints)

at-high : (v w : ℤ) → w ≤ℤ v → int_eq v w ≡ int_le v w
at-high v w h = grind (arith, ints)

or-cases : {X : Type 0} (s t : Bool) → (s || t) ≡ true → (s ≡ true → X) → (t ≡ true → X) → X
or-cases true t h first second = first refl
or-cases false t h first second = second h

or-true : (s t : Bool) → t ≡ true → (s || t) ≡ true
or-true true t h = refl
or-true false t h = h

among-at : (vs : List ℤ) (v : ℤ) (k : ℕ) → k < length vs → get_or vs k v ≡ v → is_among v vs ≡ true
among-at [] v k lt at = absurd (omega (arith, lt))
among-at (w ∷ vs) v zero lt at = ap (λ t. t || is_among v vs) (is-eq w v at)
among-at (w ∷ vs) v (suc k) lt at = or-true (int_eq w v) (is_among v vs) (among-at vs v k (omega (arith, lt)) at)

-- an ordered integer has its value among its values
value-had : (σ : Valuation) (d : OrdInt) → IsOrdered σ d → has_value d (value_of σ d) ≡ true
value-had σ d ordered =
    let c = Contains-value_of σ d ordered in
    among-at (values_of d) (value_of σ d) c.0 c.1 c.2

not-true : (s : Bool) → not s ≡ true → s ≡ false
not-true true h = absurd (cc)
not-true false h = refl

-- where r is the truth of v being the value of d
module _ (σ : Valuation) (r : Atom) (v : ℤ) (d : OrdInt) (od : IsOrdered σ d) (is : atom_truth σ r ≡ int_eq v (value_of σ d)) where
  not-had : has_value d v ≡ false → value_of σ d ≡ v → ⊥
  not-had none e =
      let had = value-had σ d od in
      let same : has_value d (value_of σ d) ≡ has_value d v = ap (has_value d) e in
      absurd (cc)

  value-equal : AreEqual σ (eq_equations_value r v d)
  value-equal =
      let differ = only_if (is_false r) (is_not d v ∷ []) in
      let none = only_if (not (has_value d v)) ((r, False) ∷ []) in
      let least = only_if (int_eq v (low_of d)) ((r, not_atom (at_of d (v +ℤ pos 1))) ∷ []) in
      let greatest = only_if (int_eq v (high_of d)) ((r, at_of d v) ∷ []) in
      AreEqual-append σ (differ ++ none ++ least) greatest
      (AreEqual-append σ (differ ++ none) least
      (AreEqual-append σ differ none
      (AreEqual-only_if σ (is_false r) (is_not d v ∷ []) (λ e.
      is_not-equal σ d v od (eq-false v (value_of σ d) (sym is ∙ ap (atom_truth σ) (is_false-False r e)))))
      (AreEqual-only_if σ (not (has_value d v)) ((r, False) ∷ []) (λ e.
      (is ∙ not-eq v (value_of σ d) (not-had (not-true (has_value d v) e)), tt))))
      (AreEqual-only_if σ (int_eq v (low_of d)) ((r, not_atom (at_of d (v +ℤ pos 1))) ∷ []) (λ e.
      let low = eq-true v (low_of d) e in (
        is ∙ at-low v (value_of σ d) (omega (arith, ints, low, low-le σ d)) ∙ ap not (sym (atom_truth-at_of σ d (v +ℤ pos 1) od))
            ∙ sym (atom_truth-not_atom σ (at_of d (v +ℤ pos 1))),
        tt,
      ))))
      (AreEqual-only_if σ (int_eq v (high_of d)) ((r, at_of d v) ∷ []) (λ e.
      let high = eq-true v (high_of d) e in
      (is ∙ at-high v (value_of σ d) (omega (arith, ints, high, high-ge σ d)) ∙ sym (atom_truth-at_of σ d v od), tt)))

eq-turned : (v w : ℤ) → int_eq v w ≡ int_eq w v
eq-turned v w = grind (arith, ints)

module _ (σ : Valuation) (r : Atom) (a b : OrdInt) (oa : IsOrdered σ a) (ob : IsOrdered σ b) (is : atom_truth σ r ≡ int_eq (value_of σ a) (value_of σ b)) where
  eq-known : value_of σ a ≡ value_of σ b → AreEqual σ (eq_equations_true a b)
  eq-known e =
      let each : (v : ℤ) → atom_truth σ (at_of a v) ≡ atom_truth σ (at_of b v) =
      λ v. atom_truth-at_of σ a v oa ∙ ap (int_le v) e ∙ sym (atom_truth-at_of σ b v ob) in
      AreEqual-append σ (map (equal_at a b) (values_of a)) (map (equal_at a b) (values_of b))
      (AreEqual-map σ (equal_at a b) (values_of a) each) (AreEqual-map σ (equal_at a b) (values_of b) each)

  eq-apart : AreEqual σ (eq_equations_apart r a b)
  eq-apart =
      AreEqual-only_if σ (int_lt (high_of a) (low_of b) || int_lt (high_of b) (low_of a)) ((r, False) ∷ []) (λ e. (
        is ∙ not-eq (value_of σ a) (value_of σ b) (or-cases (int_lt (high_of a) (low_of b)) (int_lt (high_of b) (low_of a)) e
            (λ lt same. below (lt-true (high_of a) (low_of b) lt) same) (λ lt same. above (lt-true (high_of b) (low_of a) lt) same)),
        tt,
      ))
    where
      below : high_of a <ℤ low_of b → value_of σ b ≡ value_of σ a → ⊥
      below lt same = omega (arith, ints, lt, same, high-ge σ a, low-le σ b)

      above : high_of b <ℤ low_of a → value_of σ b ≡ value_of σ a → ⊥
      above lt same = omega (arith, ints, lt, same, high-ge σ b, low-le σ a)

  first-constant : AreEqual σ (eq_equations_constant r a b)
  first-constant =
      AreEqual-only_if σ (is_constant a) (eq_equations_value r (low_of a) b) (λ e.
      value-equal σ r (low_of a) b ob (is ∙ ap (λ v. int_eq v (value_of σ b)) (constant-value σ a e)))

  second-constant : AreEqual σ (eq_equations_constant r b a)
  second-constant =
      AreEqual-only_if σ (is_constant b) (eq_equations_value r (low_of b) a) (λ e.
      value-equal σ r (low_of b) a oa (is ∙ eq-turned (value_of σ a) (value_of σ b) ∙ ap (λ v. int_eq v (value_of σ a)) (constant-value σ b e)))

  pub eq-equal : AreEqual σ (eq_equations r a b)
  eq-equal =
      let known = only_if (is_true r) (eq_equations_true a b) in
      let first = eq_equations_constant r a b in
      let second = eq_equations_constant r b a in
      AreEqual-append σ (known ++ first ++ second ++ eq_equations_apart r a b) (only_if (same_int a b) ((r, True) ∷ []))
      (AreEqual-append σ (known ++ first ++ second) (eq_equations_apart r a b)
      (AreEqual-append σ (known ++ first) second
      (AreEqual-append σ known first
      (AreEqual-only_if σ (is_true r) (eq_equations_true a b) (λ e. eq-known (eq-true (value_of σ a) (value_of σ b) (sym is ∙ ap (atom_truth σ) (is_true-True r e)))))
      first-constant)
      second-constant)
      eq-apart)
      (AreEqual-only_if σ (same_int a b) ((r, True) ∷ []) (λ e.
      (is ∙ is-eq (value_of σ a) (value_of σ b) (ap (value_of σ) ((same_int-tells a b).0 e)), tt)))
