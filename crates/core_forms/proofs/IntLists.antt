-- Lists of integers, one behind another: what holds of both holds of all, and back.
use Rattle.std.proofs.Common.{◌≡◌, ℕ, ◌+◌, Bool, true, false, ◌&&◌, List, [], ◌∷◌, ◌++◌, ℤ, ◌+ℤ◌, refl, ap, ◌∙◌, arith}
use Rattle.std.proofs.lemmas.Int.{ints}
use Rattle.order_ints.specs.declared.order_int.OrdInt.{OrdInt}
use Rattle.order_ints.specs.Truth.{Valuation}
use Rattle.order_ints.specs.OrderValue.{value_of, in_order}
use Rattle.core_forms.specs.Values.{all_ordered, values, total}
use Rattle.core_forms.specs.Place.{IntsBelow}
use Rattle.core_forms.specs.WellFormed.{AreSound, abs_total}

-- the variables of all are below n where those of the first ones and of the others are
module _ (n : ℕ) where
  pub IntsBelow-append : (xs ys : List OrdInt) → IntsBelow n xs → IntsBelow n ys → IntsBelow n (xs ++ ys)
  IntsBelow-append [] ys h k = k
  IntsBelow-append (a ∷ xs) ys h k = (h.0, IntsBelow-append xs ys h.1 k)

  pub IntsBelow-left : (xs ys : List OrdInt) → IntsBelow n (xs ++ ys) → IntsBelow n xs
  IntsBelow-left [] ys h = tt
  IntsBelow-left (a ∷ xs) ys h = (h.0, IntsBelow-left xs ys h.1)

  pub IntsBelow-right : (xs ys : List OrdInt) → IntsBelow n (xs ++ ys) → IntsBelow n ys
  IntsBelow-right [] ys h = h
  IntsBelow-right (a ∷ xs) ys h = IntsBelow-right xs ys h.1

-- and all are sound where the first ones and the others are
pub AreSound-append : (xs ys : List OrdInt) → AreSound xs → AreSound ys → AreSound (xs ++ ys)
AreSound-append [] ys h k = k
AreSound-append (a ∷ xs) ys h k = (h.0, AreSound-append xs ys h.1 k)

pub AreSound-left : (xs ys : List OrdInt) → AreSound (xs ++ ys) → AreSound xs
AreSound-left [] ys h = tt
AreSound-left (a ∷ xs) ys h = (h.0, AreSound-left xs ys h.1)

pub AreSound-right : (xs ys : List OrdInt) → AreSound (xs ++ ys) → AreSound ys
AreSound-right [] ys h = h
AreSound-right (a ∷ xs) ys h = AreSound-right xs ys h.1

-- all are ordered where both are
pub all_ordered-append : (σ : Valuation) (xs ys : List OrdInt) → all_ordered σ (xs ++ ys) ≡ (all_ordered σ xs && all_ordered σ ys)
all_ordered-append σ [] ys = refl
all_ordered-append σ (a ∷ xs) ys = ap (λ b. in_order σ a.steps && b) (all_ordered-append σ xs ys) ∙ regroup (in_order σ a.steps) (all_ordered σ xs) (all_ordered σ ys)
  where
    regroup : (b c d : Bool) → (b && (c && d)) ≡ ((b && c) && d)
    regroup true c d = refl
    regroup false c d = refl

pub values-append : (σ : Valuation) (xs ys : List OrdInt) → values σ (xs ++ ys) ≡ values σ xs ++ values σ ys
values-append σ [] ys = refl
values-append σ (a ∷ xs) ys = ap (λ vs. value_of σ a ∷ vs) (values-append σ xs ys)

pub total-append : (vs ws : List ℤ) → total (vs ++ ws) ≡ total vs +ℤ total ws
total-append [] ws = omega (arith, ints)
total-append (v ∷ vs) ws = omega (arith, ints, total-append vs ws)

pub abs_total-append : (xs ys : List OrdInt) → abs_total (xs ++ ys) ≡ abs_total xs + abs_total ys
abs_total-append [] ys = omega arith
abs_total-append (a ∷ xs) ys = omega (arith, abs_total-append xs ys)
