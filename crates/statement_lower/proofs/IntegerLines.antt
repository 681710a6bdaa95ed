-- What the cores over integers say of their values, and that they are well formed.
use Rattle.std.proofs.Common.{◌≡◌, ◌⊎◌, inl, inr, ℕ, ◌<◌, ◌≤◌, ℤ, pos, negsuc, ◌+ℤ◌, ◌*ℤ◌, ◌≤ℤ◌, Bool, true, false, ◌&&◌, List, [], ◌∷◌, length, map, refl, sym, ap, ◌∙◌, arith}
use Rattle.std.specs.Prelude.{neg_ℤ, unsigned_abs}
use Rattle.std.specs.Ordering.{int_eq}
use Rattle.std.specs.Bool.{Decides}
use Rattle.std.proofs.lemmas.Bool.{false≢true}
use Rattle.std.proofs.lemmas.Bool.Decides.{same_from_decides, Decides-int_eq, Decides-and, Decides-or, Decides-like}
use Rattle.std.proofs.lemmas.Int.{ints}
use Rattle.order_ints.specs.declared.atom.Atom.{Atom}
use Rattle.order_ints.specs.declared.order_int.OrdInt.{OrdInt}
use Rattle.order_ints.specs.Truth.{Valuation}
use Rattle.order_ints.specs.OrderValue.{value_of, in_order, IsOrdered}
use Rattle.order_ints.specs.OrderChange.{negated_of}
use Rattle.order_ints.proofs.Negation.{value_of-negated_of, in_order-negated, AreRising-negated, StepsBelow-negated, high_of-negated_of, IsBounded-negated_of}
use Rattle.core_forms.specs.declared.form.Core.TheVariants as core
use Rattle.core_forms.specs.Truths.{truths, true_count}
use Rattle.core_forms.specs.Values.{values, all_ordered}
use Rattle.core_forms.specs.Meaning.{core_truth}
use Rattle.core_forms.specs.Place.{CoreBelow}
use Rattle.core_forms.specs.WellFormed.{IsWellFormed, greatest_abs}
use Rattle.core_forms.proofs.IntLists.{IntsBelow-append}
use Rattle.core_forms.proofs.Limits.{times-le, small-products}
use Rattle.model_meaning.specs.Booleans.{count_true}
use Rattle.model_meaning.specs.Integers.{is_greatest, is_least}
use Rattle.model_meaning.proofs.DomainLaws.{Decides-int_le}
use Rattle.statement_lower.specs.Lines.{least_core, absolute_core}
use Rattle.statement_lower.proofs.MeaningLaws.{same_meanings}
use Rattle.statement_lower.proofs.EntryLaws.{SmallInteger, AreSmallIntegers, below-small, sound-small}
use Rattle.statement_lower.proofs.Comparisons.{equal-turned}

-- The negation.

pub small-negated : (n : ℕ) (a : OrdInt) → SmallInteger n a → SmallInteger n (negated_of a)
small-negated n a h = record {
  below = StepsBelow-negated n a.steps h.below;
  sound = (IsBounded-negated_of a h.sound.0, AreRising-negated a.steps h.sound.1);
  small = omega (arith, ints, high_of-negated_of a, h.small);
}

pub small-negated_each : (n : ℕ) (ints : List OrdInt) → AreSmallIntegers n ints → AreSmallIntegers n (map negated_of ints)
small-negated_each n [] h = tt
small-negated_each n (a ∷ ints) h = (small-negated n a h.0, small-negated_each n ints h.1)

pub ordered-negated : (σ : Valuation) (a : OrdInt) → IsOrdered σ a → IsOrdered σ (negated_of a)
ordered-negated σ a h = in_order-negated σ a.steps ∙ h

values-negated : (σ : Valuation) (ints : List OrdInt) → values σ (map negated_of ints) ≡ map neg_ℤ (values σ ints)
values-negated σ [] = refl
values-negated σ (a ∷ ints) = rw (value_of-negated_of σ a, values-negated σ ints) refl

ordered-negated_each : (σ : Valuation) (ints : List OrdInt) → all_ordered σ (map negated_of ints) ≡ all_ordered σ ints
ordered-negated_each σ [] = refl
ordered-negated_each σ (a ∷ ints) = rw (in_order-negated σ a.steps, ordered-negated_each σ ints) refl

-- Truths.

only-test : (o t : Bool) → o ≡ true → (o && t) ≡ t
only-test o t e = rw e refl

behind-two : (o p t : Bool) → o ≡ true → p ≡ true → ((o && p) && t) ≡ t
behind-two o p t e f = rw (e, f) refl

behind-three : (o p q t : Bool) → o ≡ true → p ≡ true → q ≡ true → ((o && (p && q)) && t) ≡ t
behind-three o p q t e f g = rw (e, f, g) refl

two-true : (o p : Bool) → o ≡ true → p ≡ true → (o && (p && true)) ≡ true
two-true o p e f = rw (e, f) refl

module _ (σ : Valuation) where
  pub count-truth : (atoms : List Atom) (a : OrdInt) → IsOrdered σ a → core_truth σ (core.Count atoms a) ≡ int_eq (pos (count_true (truths σ atoms))) (value_of σ a)
  count-truth atoms a h =
      only-test (in_order σ a.steps) _ h
      ∙ (equal-turned (value_of σ a) (pos (true_count σ atoms)) ∙ ap (λ n. int_eq (pos n) (value_of σ a)) (same_meanings.count σ atoms))

  pub sum-truth : (a b c : OrdInt) → IsOrdered σ a → IsOrdered σ b → IsOrdered σ c → core_truth σ (core.Sum3 a b c) ≡ int_eq (value_of σ c) (value_of σ a +ℤ value_of σ b)
  sum-truth a b c h k l =
      behind-three (in_order σ a.steps) (in_order σ b.steps) (in_order σ c.steps) _ h k l ∙ equal-turned (value_of σ a +ℤ value_of σ b) (value_of σ c)

  pub product-truth : (a b c : OrdInt) → IsOrdered σ a → IsOrdered σ b → IsOrdered σ c → core_truth σ (core.Prod a b c) ≡ int_eq (value_of σ c) (value_of σ a *ℤ value_of σ b)
  product-truth a b c h k l =
      behind-three (in_order σ a.steps) (in_order σ b.steps) (in_order σ c.steps) _ h k l ∙ equal-turned (value_of σ a *ℤ value_of σ b) (value_of σ c)

  pub greatest-truth : (ints : List OrdInt) (a : OrdInt) → all_ordered σ ints ≡ true → IsOrdered σ a → core_truth σ (core.Max ints a) ≡ is_greatest (value_of σ a) (values σ ints)
  greatest-truth ints a h k =
      behind-two (all_ordered σ ints) (in_order σ a.steps) _ h k ∙ sym (same_meanings.greatest (value_of σ a) (values σ ints))

  pub least-truth : (ints : List OrdInt) (a : OrdInt) → all_ordered σ ints ≡ true → IsOrdered σ a → core_truth σ (least_core ints a) ≡ is_least (value_of σ a) (values σ ints)
  least-truth ints a h k =
      behind-two (all_ordered σ (map negated_of ints)) (in_order σ (negated_of a).steps) _ (ordered-negated_each σ ints ∙ h) (ordered-negated σ a k)
      ∙ (rw (value_of-negated_of σ a, values-negated σ ints) (sym (same_meanings.least (value_of σ a) (values σ ints))))

-- the greater one of a number and minus it
absolute-from : (i j : ℤ) → ((i ≡ j) ⊎ ((neg_ℤ i ≡ j) ⊎ ⊥)) → i ≤ℤ j → neg_ℤ i ≤ℤ j → j ≡ pos (unsigned_abs i)
absolute-from i j (inl e) h k = omega (arith, ints, e, h, k)
absolute-from i j (inr (inl e)) h k = omega (arith, ints, e, h, k)
absolute-from i j (inr (inr e)) h k = absurd e

absolute-to : (i j : ℤ) → j ≡ pos (unsigned_abs i) → (i ≡ j) ⊎ ((neg_ℤ i ≡ j) ⊎ ⊥)
absolute-to (pos n) j e = inl (omega (arith, ints, e))
absolute-to (negsuc n) j e = inr (inl (omega (arith, ints, e)))

Decides-false : Decides false ⊥
Decides-false = (λ e. absurd (false≢true e), λ h. absurd h)

Decides-true : Decides true (Unit {0})
Decides-true = (λ e. tt, λ h. refl)

pub absolute-test : (i j : ℤ) → is_greatest j (i ∷ neg_ℤ i ∷ []) ≡ int_eq j (pos (unsigned_abs i))
absolute-test i j =
    same_from_decides _ _
    (Decides-like _ (λ h. absolute-from i j h.0 h.1.0 h.1.1.0) (λ e. (absolute-to i j e, (omega (arith, ints, e), (omega (arith, ints, e), tt))))
    (Decides-and _ _
    (Decides-or _ _ (Decides-int_eq i j) (Decides-or _ _ (Decides-int_eq (neg_ℤ i) j) Decides-false))
    (Decides-and _ _ (Decides-int_le i j) (Decides-and _ _ (Decides-int_le (neg_ℤ i) j) Decides-true))))
    (Decides-int_eq j (pos (unsigned_abs i)))

pub absolute-truth : (σ : Valuation) (a b : OrdInt) → IsOrdered σ a → IsOrdered σ b → core_truth σ (absolute_core a b) ≡ int_eq (value_of σ b) (pos (unsigned_abs (value_of σ a)))
absolute-truth σ a b h k =
    greatest-truth σ (a ∷ negated_of a ∷ []) b (two-true (in_order σ a.steps) (in_order σ (negated_of a).steps) h (ordered-negated σ a h)) k
    ∙ (ap (λ v. is_greatest (value_of σ b) (value_of σ a ∷ v ∷ [])) (value_of-negated_of σ a) ∙ absolute-test (value_of σ a) (value_of σ b))

-- Ranges.

module _ (n : ℕ) where
  pub greatest-below : (ints : List OrdInt) (a : OrdInt) → AreSmallIntegers n ints → SmallInteger n a → CoreBelow n (core.Max ints a)
  greatest-below ints a h k = (tt, IntsBelow-append n ints (a ∷ []) (below-small n ints h) (k.below, tt))

  pub greatest-well_formed : (ints : List OrdInt) (a : OrdInt) → AreSmallIntegers n ints → SmallInteger n a → 0 < length ints → IsWellFormed (core.Max ints a)
  greatest-well_formed ints a h k some = (sound-small n ints h, k.sound, some)

  pub product-well_formed : (a b c : OrdInt) → SmallInteger n a → SmallInteger n b → SmallInteger n c → IsWellFormed (core.Prod a b c)
  product-well_formed a b c h k l =
      let le = times-le (greatest_abs a) (greatest_abs b) 1073741824 1073741824 h.small k.small in
      (h.sound, k.sound, l.sound, small-products a b (omega (arith, le)))

  pub sum-well_formed : (a b c : OrdInt) → SmallInteger n a → SmallInteger n b → SmallInteger n c → IsWellFormed (core.Sum3 a b c)
  sum-well_formed a b c h k l = (h.sound, k.sound, l.sound, omega (arith, h.small, k.small))

  pub count-well_formed : (atoms : List Atom) (a : OrdInt) → SmallInteger n a → length atoms ≤ 16777216 → IsWellFormed (core.Count atoms a)
  count-well_formed atoms a h few = (h.sound, omega (arith, h.small, few))
