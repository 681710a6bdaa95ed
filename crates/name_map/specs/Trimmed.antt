-- What names stand for, as a view has it.
use Rattle.std.specs.Prelude.{List, [], ◌∷◌}
use Rattle.order_ints.specs.declared.atom.Atom.{Atom}
use Rattle.order_ints.specs.declared.order_int.MapValue.{MapValue}
use Rattle.order_ints.specs.declared.order_int.MapValue.TheVariants as values
use Rattle.order_ints.specs.View.{resolve}
use Rattle.core_forms.specs.Trimmed.{trimmed_int}

-- an atom is resolved, an integer is trimmed
abbrev pub trimmed_value : List Atom → MapValue → MapValue
trimmed_value view (values.Bool a) = values.Bool (resolve view a)
trimmed_value view (values.Int a) = values.Int (trimmed_int view a)

abbrev pub trimmed_values : List Atom → List MapValue → List MapValue
trimmed_values view [] = []
trimmed_values view (v ∷ map) = trimmed_value view v ∷ trimmed_values view map
