-- What the declared names stand for: the ranges of their atoms and integers.
use Rattle.std.specs.Prelude.{◌≡◌, ℕ, ℤ, List, [], ◌∷◌}
use Rattle.order_ints.specs.declared.order_int.OrdInt.{OrdInt}
use Rattle.order_ints.specs.declared.order_int.MapValue.{MapValue}
use Rattle.order_ints.specs.declared.order_int.MapValue.TheVariants as values
use Rattle.order_ints.specs.Truth.{Valuation}
use Rattle.order_ints.specs.Place.{AtomBelow}
use Rattle.order_ints.specs.OrderRange.{IntBelow, AreRising, low_of, high_of}
use Rattle.order_ints.specs.OrderValue.{IsOrdered}
use Rattle.core_forms.specs.WellFormed.{IsSound}
use Rattle.core_forms.specs.Shapes.{shape_of}
use Rattle.value_lists.specs.ValueLists.{first_of, last_of, shape_of as listed_shape}
use Rattle.model_meaning.specs.declared.model.Kind.{Kind}
use Rattle.model_meaning.specs.declared.model.Kind.TheVariants as kind
use Rattle.model_meaning.specs.declared.model.Decl.{Decl}
use Rattle.model_meaning.specs.Limits.{InLimit}

-- each integer of a map is ordered
abbrev pub AreOrdered : Valuation → List MapValue → Type 0
AreOrdered σ [] = Unit {0}
AreOrdered σ (values.Bool a ∷ entries) = AreOrdered σ entries
AreOrdered σ (values.Int a ∷ entries) = IsOrdered σ a × AreOrdered σ entries

-- the least and the greatest value of each integer of a map are in the limit of numerals, and each step raises the
-- value
abbrev pub AreInLimit : List MapValue → Type 0
AreInLimit [] = Unit {0}
AreInLimit (values.Bool a ∷ entries) = AreInLimit entries
AreInLimit (values.Int a ∷ entries) = (InLimit (low_of a) × InLimit (high_of a) × AreRising a.steps)
    × AreInLimit entries
