-- What the declared names stand for is of the kinds of their declarations.
use Rattle.std.specs.Prelude.{◌≡◌, ℕ, ℤ, ◌≤ℤ◌, ◌-ℤ◌, List, [], ◌∷◌}
use Rattle.order_ints.specs.declared.order_int.OrdInt.{OrdInt}
use Rattle.order_ints.specs.declared.order_int.MapValue.{MapValue}
use Rattle.order_ints.specs.declared.order_int.MapValue.TheVariants as values
use Rattle.order_ints.specs.Place.{AtomBelow}
use Rattle.order_ints.specs.OrderRange.{IntBelow, low_of, high_of}
use Rattle.core_cost.specs.declared.shape.Shape.{Shape}
use Rattle.core_cost.specs.Sums.{unit_steps}
use Rattle.core_forms.specs.WellFormed.{IsSound}
use Rattle.core_forms.specs.Shapes.{shape_of}
use Rattle.value_lists.specs.ValueLists.{first_of, last_of, shape_of as listed_shape}
use Rattle.model_meaning.specs.declared.model.Kind.{Kind}
use Rattle.model_meaning.specs.declared.model.Kind.TheVariants as kind
use Rattle.model_meaning.specs.declared.model.Decl.{Decl}
use Rattle.model_meaning.specs.Domains.{at_least_zero}
use Rattle.model_meaning.specs.Limits.{InLimit}

-- A Boolean stands for an atom, whose variable is below n, and an integer for an integer that is as `Fits` says of its
-- domain's least and greatest value and shape.
abbrev pub IsOfKind : (ℤ → ℤ → Shape → OrdInt → Type 0) → ℕ → Kind → MapValue → Type 0
IsOfKind Fits n kind.Bool (values.Bool a) = AtomBelow n a
IsOfKind Fits n kind.Bool (values.Int a) = ⊥
IsOfKind Fits n (kind.Range low high) (values.Bool a) = ⊥
IsOfKind Fits n (kind.Range low high) (values.Int a) = Fits low high (unit_steps (at_least_zero (high -ℤ low))) a
IsOfKind Fits n (kind.Listed vs) (values.Bool a) = ⊥
IsOfKind Fits n (kind.Listed vs) (values.Int a) = Fits (first_of vs) (last_of vs) (listed_shape vs) a

-- one for each declaration
abbrev pub AreOfKinds : (ℤ → ℤ → Shape → OrdInt → Type 0) → ℕ → List Decl → List MapValue → Type 0
AreOfKinds Fits n [] [] = Unit {0}
AreOfKinds Fits n [] (v ∷ vs) = ⊥
AreOfKinds Fits n (d ∷ ds) [] = ⊥
AreOfKinds Fits n (d ∷ ds) (v ∷ vs) = IsOfKind Fits n d.kind v × AreOfKinds Fits n ds vs

-- What the declarations say: an integer's variables are below n, it is sound, its least and greatest values are those
-- of its domain, which are in the limit of numerals, and it has the domain's shape.
pub record IntegerFits (n : ℕ) (low high : ℤ) (s : Shape) (a : OrdInt) : Type 0 where
  pub below : IntBelow n a
  pub sound : IsSound a
  pub least : low_of a ≡ low
  pub greatest : high_of a ≡ high
  pub shape : shape_of a ≡ s
  pub low_in_limit : InLimit low
  pub high_in_limit : InLimit high

abbrev pub EntryFits : ℕ → Kind → MapValue → Type 0
EntryFits n k v = IsOfKind (IntegerFits n) n k v

abbrev pub EntriesFit : ℕ → List Decl → List MapValue → Type 0
EntriesFit n ds entries = AreOfKinds (IntegerFits n) n ds entries

-- What a store has of it: an integer's variables are below n, it is sound, and its values are from the least to the
-- greatest of its domain, which are in the limit of numerals.
pub record TrimmedFits (n : ℕ) (low high : ℤ) (s : Shape) (a : OrdInt) : Type 0 where
  pub below : IntBelow n a
  pub sound : IsSound a
  pub least : low ≤ℤ low_of a
  pub greatest : high_of a ≤ℤ high
  pub low_in_limit : InLimit low
  pub high_in_limit : InLimit high

abbrev pub ValueFits : ℕ → Kind → MapValue → Type 0
ValueFits n k v = IsOfKind (TrimmedFits n) n k v

abbrev pub ValuesFit : ℕ → List Decl → List MapValue → Type 0
ValuesFit n ds vs = AreOfKinds (TrimmedFits n) n ds vs
