-- The equations that all-different and lexicographic order state hold where they are met.
use Rattle.std.proofs.Common.{◌≡◌, ℕ, ◌+◌, ◌≤◌, ◌<◌, Bool, true, false, not, cond, ◌&&◌, ◌⊎◌, inl, inr, List, [], ◌∷◌, length, ℤ, pos, ◌+ℤ◌, ◌≤ℤ◌, ◌<ℤ◌, refl, ap, sym, ◌∙◌, subst, arith, ⊎_elim}
use Rattle.std.specs.Prelude.{int_lt}
use Rattle.std.specs.Bool.{beq}
use Rattle.std.specs.Ordering.{int_eq}
use Rattle.std.proofs.lemmas.Bool.{true≢false, false≢true, cases_eq, false_from_ne_true}
use Rattle.std.proofs.lemmas.Int.{ints}
use Rattle.order_ints.specs.declared.atom.Atom.{Atom}
use Rattle.order_ints.specs.declared.atom.Atom.TheVariants.{True, False, Of}
use Rattle.order_ints.specs.declared.order_int.OrdInt.{OrdInt}
use Rattle.order_ints.specs.Truth.{Valuation, atom_truth}
use Rattle.order_ints.specs.OrderValue.{value_of, in_order}
use Rattle.order_ints.specs.OrderRange.{low_of, high_of}
use Rattle.order_ints.specs.OrderLevels.{values_of, is_among}
use Rattle.order_ints.specs.OrderMade.{constant_of}
use Rattle.order_ints.proofs.Truths.{atom_truth-not_atom}
use Rattle.order_ints.proofs.Gains.{low-le, high-ge}
use Rattle.core_forms.specs.declared.form.Core.{Core}
use Rattle.core_forms.specs.declared.form.Core.TheVariants.{Ladder, Clause, Parity, Conj, Comp, LeqR, EqR, Sum3, Count, Sum, Max, AllDiff, Amo, Prod, DivMod, Lex}
use Rattle.core_forms.specs.declared.equation.Equation.{Equation}
use Rattle.core_forms.specs.WellFormed.{IsWellFormed}
use Rattle.core_forms.specs.Meaning.{Meets}
use Rattle.core_forms.specs.Truths.{truths}
use Rattle.core_forms.specs.Values.{all_ordered, values, all_differ, is_before}
use Rattle.rule_base.specs.Stated.{is_below, at_least}
use Rattle.rule_base.specs.Found.{IsImplied}
use Rattle.rule_base.proofs.StatedLaws.{at_of-reached, at_of-passed, is_not-equal}
use Rattle.alldiff_rules.specs.Members.{int_at, condition_at, IsSure, AreAllSure, choice_of, all_values, number_of_values}
use Rattle.alldiff_rules.specs.Rows.{AreTwins, IsTaken, by_constant, by_twins, IsAlone, IsRow, too_few, needed_elsewhere, equal_constants, opposite_twins, reached_alone, passed_alone, lex_equations}
use Rattle.alldiff_rules.specs.Instances.{IsOneOf, IsStated, IsInstance}
use Rattle.alldiff_rules.proofs.Pigeonhole.{int_eq-same, fits, takes_each, new_members, length-new, all-new, LiesIn}
use Rattle.alldiff_rules.proofs.Places.{AreApart, are_apart, sure-inside, sure-true, no_repeats, among-value_of, values-inside, among-all, value-place, length-values, and-left, and-right}

-- the value of a constant, and that of an integer with two values
value-constant : (σ : Valuation) (a : OrdInt) (v : ℤ) → a ≡ constant_of v → value_of σ a ≡ v
value-constant σ a v e = ap (value_of σ) e ∙ zero_more v
  where
    zero_more : (v : ℤ) → v +ℤ pos 0 ≡ v
    zero_more v = omega (arith, ints)

value-choice : (σ : Valuation) (a : OrdInt) (v : ℤ) (p : Atom) (d : ℕ) (t : Bool) → a ≡ choice_of v p d → atom_truth σ p ≡ t → value_of σ a ≡ cond t (v +ℤ pos d) v
value-choice σ a v p d t e is = ap (value_of σ) e ∙ ap (λ (b : Bool). v +ℤ pos (cond b d 0 + 0)) is ∙ by t
  where
    by : (t : Bool) → v +ℤ pos (cond t d 0 + 0) ≡ cond t (v +ℤ pos d) v
    by true = omega (arith, ints)
    by false = omega (arith, ints)

module _ (σ : Valuation) (xs : List OrdInt) (cs : List Atom) (same : length xs ≡ length cs) (apart : AreApart σ xs cs) where
  inside : (i : ℕ) → IsSure cs i → i < length xs
  inside i h = omega (arith, sure-inside cs i h)

  differ : (i j : ℕ) → (i ≡ j → ⊥) → IsSure cs i → IsSure cs j → value_of σ (int_at xs i) ≡ value_of σ (int_at xs j) → ⊥
  differ i j ne s t = apart.differ i j ne (inside i s) (inside j t) (sure-true σ cs i s) (sure-true σ cs j t)

  -- of two with the same two values one has the greater where the other has the lower
  twins-opposite : (i j : ℕ) (v : ℤ) (d : ℕ) (p q : Atom) → AreTwins xs cs i j v d p q → atom_truth σ p ≡ not (atom_truth σ q)
  twins-opposite i j v d p q h = by (atom_truth σ p) (atom_truth σ q) refl refl
    where
      alike : (t : Bool) → atom_truth σ p ≡ t → atom_truth σ q ≡ t → ⊥
      alike t e f = differ i j h.apart h.sure_first h.sure_second (value-choice σ (int_at xs i) v p d t h.first e ∙ sym (value-choice σ (int_at xs j) v q d t h.second f))

      by : (s t : Bool) → atom_truth σ p ≡ s → atom_truth σ q ≡ t → s ≡ not t
      by true true e f = absurd (alike true e f)
      by true false e f = refl
      by false true e f = refl
      by false false e f = absurd (alike false e f)

  -- so one of them has each of the two values
  twins-take : (i j : ℕ) (low : ℤ) (d : ℕ) (p q : Atom) → AreTwins xs cs i j low d p q → (v : ℤ) → (v ≡ low) ⊎ (v ≡ low +ℤ pos d) → (value_of σ (int_at xs i) ≡ v) ⊎ (value_of σ (int_at xs j) ≡ v)
  twins-take i j low d p q h v one = by (atom_truth σ q) refl one
    where
      of_first : (t : Bool) → atom_truth σ q ≡ t → value_of σ (int_at xs i) ≡ cond (not t) (low +ℤ pos d) low
      of_first t e = value-choice σ (int_at xs i) low p d (not t) h.first (twins-opposite i j low d p q h ∙ ap not e)

      of_second : (t : Bool) → atom_truth σ q ≡ t → value_of σ (int_at xs j) ≡ cond t (low +ℤ pos d) low
      of_second t e = value-choice σ (int_at xs j) low q d t h.second e

      by : (t : Bool) → atom_truth σ q ≡ t → (v ≡ low) ⊎ (v ≡ low +ℤ pos d) → (value_of σ (int_at xs i) ≡ v) ⊎ (value_of σ (int_at xs j) ≡ v)
      by true e (inl is) = inl (of_first true e ∙ sym is)
      by true e (inr is) = inr (of_second true e ∙ sym is)
      by false e (inl is) = inr (of_second false e ∙ sym is)
      by false e (inr is) = inl (of_first false e ∙ sym is)

  -- a member isn't a value that others need
  taken-differs : (k : ℕ) (v : ℤ) → IsSure cs k → IsTaken xs cs k v → value_of σ (int_at xs k) ≡ v → ⊥
  taken-differs k v sure (by_constant i ne s is) e = differ i k ne s sure (value-constant σ (int_at xs i) v is ∙ sym e)
  taken-differs k v sure (by_twins i j low d p q h ne_i ne_j one) e =
      ⊎_elim (λ (f : value_of σ (int_at xs i) ≡ v). differ i k ne_i h.sure_first sure (f ∙ sym e))
      (λ (f : value_of σ (int_at xs j) ≡ v). differ j k ne_j h.sure_second sure (f ∙ sym e))
      (twins-take i j low d p q h v one)

  -- of two constants with one value one has no true condition
  same-not : (i j : ℕ) (v : ℤ) → (i ≡ j → ⊥) → j < length xs → IsSure cs i → int_at xs i ≡ constant_of v → int_at xs j ≡ constant_of v → atom_truth σ (condition_at cs j) ≡ false
  same-not i j v ne lt sure first second =
      false_from_ne_true _ (λ t. apart.differ i j ne (inside i sure) lt (sure-true σ cs i sure) t (value-constant σ (int_at xs i) v first ∙ sym (value-constant σ (int_at xs j) v second)))

  -- there are at least as many values as members that all differ
  module _ (ordered : all_ordered σ xs ≡ true) (sure : AreAllSure cs) where
    lies : LiesIn (values σ xs) (new_members [] (all_values xs))
    lies v e = all-new (all_values xs) v (values-inside σ xs ordered v e)

    length-same : length (values σ xs) ≡ length xs
    length-same = length-values σ xs

    enough : length xs ≤ number_of_values xs
    enough = omega (arith, fits (values σ xs) (new_members [] (all_values xs)) (no_repeats σ xs cs sure same apart) lies, length-same, length-new [] (all_values xs))

    -- and where there are no more, a value that one member alone has is its value
    alone-value : (i : ℕ) (v : ℤ) → number_of_values xs ≡ length xs → IsAlone xs i v → value_of σ (int_at xs i) ≡ v
    alone-value i v as_many h = ⊎_elim (λ (e : p.0 ≡ i). ap (λ (n : ℕ). value_of σ (int_at xs n)) (sym e) ∙ p.2) (λ (ne : p.0 ≡ i → ⊥). absurd (true≢false (sym there ∙ h.nowhere p.0 p.1 ne))) (cases_eq p.0 i)
      where
        p : (j : ℕ) × (j < length xs) × (value_of σ (int_at xs j) ≡ v)
        p = value-place σ xs v (takes_each (values σ xs) (new_members [] (all_values xs)) (no_repeats σ xs cs sure same apart) lies (omega (arith, length-same, length-new [] (all_values xs), as_many)) v (all-new (all_values xs) v (among-all xs i v h.inside h.here)))

        there : is_among v (values_of (int_at xs p.0)) ≡ true
        there = subst (λ x. is_among x (values_of (int_at xs p.0)) ≡ true) p.2 (among-value_of σ (int_at xs p.0) (apart.ordered p.0 p.1))

  -- each stated equation holds
  row-true : all_ordered σ xs ≡ true → (a b : Atom) → IsRow xs cs a b → atom_truth σ a ≡ atom_truth σ b
  row-true ordered a b (too_few sure less e f) = absurd (omega (arith, less, enough ordered sure))
  row-true ordered a b (needed_elsewhere k v lt sure h e f) =
      ap (atom_truth σ) e ∙ (is_not-equal σ (int_at xs k) v (apart.ordered k lt) (taken-differs k v sure h)).0 ∙ sym (ap (atom_truth σ) f)
  row-true ordered a b (equal_constants i j v ne lt sure first second e f) =
      ap (atom_truth σ) e ∙ same-not i j v ne lt sure first second ∙ sym (ap (atom_truth σ) f)
  row-true ordered a b (opposite_twins i j v d p q h e f) =
      ap (atom_truth σ) e ∙ twins-opposite i j v d p q h ∙ sym (atom_truth-not_atom σ q) ∙ sym (ap (atom_truth σ) f)
  row-true ordered a b (reached_alone i v sure as_many h e f) =
      let is : value_of σ (int_at xs i) ≡ v = alone-value ordered sure i v as_many h in
      let le : v ≤ℤ value_of σ (int_at xs i) = omega (arith, ints, is) in
      ap (atom_truth σ) e ∙ at_of-reached σ (int_at xs i) v (apart.ordered i h.inside) le ∙ sym (ap (atom_truth σ) f)
  row-true ordered a b (passed_alone i v sure as_many h e f) =
      let is : value_of σ (int_at xs i) ≡ v = alone-value ordered sure i v as_many h in
      let lt : value_of σ (int_at xs i) <ℤ (v +ℤ pos 1) = omega (arith, ints, is) in
      ap (atom_truth σ) e ∙ at_of-passed σ (int_at xs i) (v +ℤ pos 1) (apart.ordered i h.inside) lt ∙ sym (ap (atom_truth σ) f)

beq-same : (s t : Bool) → beq s t ≡ true → s ≡ t
beq-same true true h = refl
beq-same true false h = absurd (false≢true h)
beq-same false true h = absurd (false≢true h)
beq-same false false h = refl

-- the first value of a list that stands before another is at most the other's
before-le : (strict : Bool) (v w : ℤ) (vs ws : List ℤ) → is_before strict (v ∷ vs) (w ∷ ws) ≡ true → v ≤ℤ w
before-le strict v w vs ws h = by (int_eq v w) refl h
  where
    less : int_lt v w ≡ true → v ≤ℤ w
    less e = grind (arith, ints)

    by : (t : Bool) → int_eq v w ≡ t → cond t (is_before strict vs ws) (int_lt v w) ≡ true → v ≤ℤ w
    by true is e = let same : v ≡ w = int_eq-same v w is in omega (arith, ints, same)
    by false is e = less e

lex-true : (σ : Valuation) (r : Atom) (strict : Bool) (front back : List OrdInt) → Meets σ (Lex r strict front back) → (a b : Atom) → IsOneOf a b (lex_equations r strict front back) → atom_truth σ a ≡ atom_truth σ b
lex-true σ r strict [] [] h a b (inl p) = ap (atom_truth σ) p.0 ∙ by strict (beq-same (atom_truth σ r) (not strict) h) p.1
  where
    by : (t : Bool) → atom_truth σ r ≡ not t → b ≡ cond t False True → atom_truth σ r ≡ atom_truth σ b
    by true e f = e ∙ sym (ap (atom_truth σ) f)
    by false e f = e ∙ sym (ap (atom_truth σ) f)
lex-true σ r strict [] [] h a b (inr p) = absurd p
lex-true σ r strict [] (y ∷ back) h a b p = absurd p
lex-true σ r strict (x ∷ front) [] h a b p = absurd p
lex-true σ False strict (x ∷ front) (y ∷ back) h a b p = absurd p
lex-true σ (Of l) strict (x ∷ front) (y ∷ back) h a b p = absurd p
lex-true σ True strict (x ∷ front) (y ∷ back) h a b p = by p
  where
    orders : Bool
    orders = (in_order σ x.steps && all_ordered σ front) && (in_order σ y.steps && all_ordered σ back)

    both : orders ≡ true
    both = and-left orders (beq true (is_before strict (values σ (x ∷ front)) (values σ (y ∷ back)))) h

    before : is_before strict (values σ (x ∷ front)) (values σ (y ∷ back)) ≡ true
    before = sym (beq-same true (is_before strict (values σ (x ∷ front)) (values σ (y ∷ back))) (and-right orders (beq true (is_before strict (values σ (x ∷ front)) (values σ (y ∷ back)))) h))

    order_x : in_order σ x.steps ≡ true
    order_x = and-left (in_order σ x.steps) (all_ordered σ front) (and-left (in_order σ x.steps && all_ordered σ front) (in_order σ y.steps && all_ordered σ back) both)

    order_y : in_order σ y.steps ≡ true
    order_y = and-left (in_order σ y.steps) (all_ordered σ back) (and-right (in_order σ x.steps && all_ordered σ front) (in_order σ y.steps && all_ordered σ back) both)

    le : value_of σ x ≤ℤ value_of σ y
    le = before-le strict (value_of σ x) (value_of σ y) (values σ front) (values σ back) before

    below : value_of σ x <ℤ (high_of y +ℤ pos 1)
    below = omega (arith, ints, le, high-ge σ y)

    least : low_of x ≤ℤ value_of σ y
    least = omega (arith, ints, le, low-le σ x)

    by : IsOneOf a b (is_below x (high_of y +ℤ pos 1) ∷ at_least y (low_of x) ∷ []) → atom_truth σ a ≡ atom_truth σ b
    by (inl q) = ap (atom_truth σ) q.0 ∙ at_of-passed σ x (high_of y +ℤ pos 1) order_x below ∙ sym (ap (atom_truth σ) q.1)
    by (inr (inl q)) = ap (atom_truth σ) q.0 ∙ at_of-reached σ y (low_of x) order_y least ∙ sym (ap (atom_truth σ) q.1)
    by (inr (inr q)) = absurd q

stated-true : (σ : Valuation) (core : Core) (a b : Atom) → IsWellFormed core → Meets σ core → IsStated core a b → atom_truth σ a ≡ atom_truth σ b
stated-true σ (Ladder c) a b form h s = absurd s
stated-true σ (Clause ls) a b form h s = absurd s
stated-true σ (Parity ls odd) a b form h s = absurd s
stated-true σ (Conj r ls) a b form h s = absurd s
stated-true σ (Comp x y hi lo) a b form h s = absurd s
stated-true σ (LeqR r x y) a b form h s = absurd s
stated-true σ (EqR r x y) a b form h s = absurd s
stated-true σ (Sum3 x y z) a b form h s = absurd s
stated-true σ (Count ls c) a b form h s = absurd s
stated-true σ (Sum xs k) a b form h s = absurd s
stated-true σ (Max xs c) a b form h s = absurd s
stated-true σ (AllDiff xs cs) a b form h s =
    row-true σ xs cs form.1 (are_apart σ xs cs h) (and-left (all_ordered σ xs) (all_differ (values σ xs) (truths σ cs)) h) a b s
stated-true σ (Amo ls) a b form h s = absurd s
stated-true σ (Prod x y z) a b form h s = absurd s
stated-true σ (DivMod x y q r) a b form h s = absurd s
stated-true σ (Lex r strict front back) a b form h s = lex-true σ r strict front back h a b s

-- an instance is implied
pub instance-implied : (core : Core) (e : Equation) → IsWellFormed core → IsInstance core e → IsImplied core e
instance-implied core e form h σ meets =
    ⊎_elim (λ (s : IsStated core e.a e.b). stated-true σ core e.a e.b form meets s)
    (λ (s : IsStated core e.b e.a). sym (stated-true σ core e.b e.a form meets s)) h.stated
