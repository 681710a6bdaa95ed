-- What a declared name stands for: an atom for a Boolean, an integer in the order encoding for an integer.
use Rattle.std.specs.Prelude.{Bool, true, false, List, [], ◌∷◌, map}
use Rattle.order_ints.specs.declared.order_int.MapValue.{MapValue}
use Rattle.order_ints.specs.declared.order_int.MapValue.TheVariants as values
use Rattle.order_ints.specs.OrderRange.{IsBounded}
use Rattle.model_meaning.specs.declared.model.Kind.{Kind}
use Rattle.model_meaning.specs.declared.model.Kind.TheVariants as kind
use Rattle.name_map.specs.declared.entries.MapEntry.{MapEntry}

-- whether a name is a Boolean, by what it stands for
abbrev pub is_boolean : MapValue → Bool
is_boolean (values.Bool a) = true
is_boolean (values.Int a) = false

-- and by its declaration
abbrev pub is_boolean_kind : Kind → Bool
is_boolean_kind kind.Bool = true
is_boolean_kind (kind.Range low high) = false
is_boolean_kind (kind.Listed vs) = false

-- what each name stands for
abbrev pub values_of : List MapEntry → List MapValue
values_of entries = map (λ e. e.value) entries

-- the values of an integer are below 2 ^ 100 in absolute value
abbrev pub IsBoundedValue : MapValue → Type 0
IsBoundedValue (values.Bool a) = Unit {0}
IsBoundedValue (values.Int a) = IsBounded a

abbrev pub AreBounded : List MapValue → Type 0
AreBounded [] = Unit {0}
AreBounded (v ∷ vs) = IsBoundedValue v × AreBounded vs
