-- Words whose integers are each the truth of a name, with one base and one weight.
use Rattle.std.specs.Prelude.{◌≡◌, ℕ, ℤ, true, List, [], ◌∷◌, length, Contains}
use Rattle.order_ints.specs.declared.atom.Atom.TheVariants.{Of}
use Rattle.order_ints.specs.declared.order_int.OrdInt.{OrdInt}
use Rattle.order_ints.specs.OrderValue.{value_of}
use Rattle.order_ints.specs.Truth.{Valuation}

-- the integer is the truth of one of some names: a weight above a base where the name is true, and else the base
pub record IsLetter (names : List ℕ) (base : ℤ) (weight : ℕ) (a : OrdInt) : Type 0 where
  pub name : ℕ
  pub among : Contains names name
  pub base_is : a.base ≡ base
  pub steps_are : a.steps ≡ (Of (record { var = name; positive = true }), weight) ∷ []

abbrev pub AreLetters : List ℕ → ℤ → ℕ → List OrdInt → Type 0
AreLetters names base weight [] = Unit {0}
AreLetters names base weight (a ∷ ints) = IsLetter names base weight a × AreLetters names base weight ints

-- each integer has one step
abbrev pub HaveOneStep : List OrdInt → Type 0
HaveOneStep [] = Unit {0}
HaveOneStep (a ∷ ints) = (length a.steps ≡ 1) × HaveOneStep ints

-- each integer has a value
abbrev pub AllHave : Valuation → ℤ → List OrdInt → Type 0
AllHave σ v [] = Unit {0}
AllHave σ v (a ∷ ints) = (value_of σ a ≡ v) × AllHave σ v ints

-- each integer of two lists has one value
pub record AreAllOne (σ : Valuation) (first second : List OrdInt) : Type 0 where
  pub value : ℤ
  pub first_have : AllHave σ value first
  pub second_have : AllHave σ value second
