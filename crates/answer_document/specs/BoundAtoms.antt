-- The atoms that say of an objective how good it is.
use Rattle.std.specs.Prelude.{ℕ, List, ℤ, pos, ◌+ℤ◌, slice_get, Option, Some, None}
use Rattle.order_ints.specs.declared.atom.Atom.{Atom}
use Rattle.order_ints.specs.declared.atom.Atom.TheVariants.{True, False}
use Rattle.order_ints.specs.declared.order_int.OrdInt.{OrdInt}
use Rattle.order_ints.specs.declared.order_int.MapValue.{MapValue}
use Rattle.order_ints.specs.Truth.{not_atom}
use Rattle.order_ints.specs.OrderLevels.{at_of}
use Rattle.model_meaning.specs.declared.model.Goal.{Goal}
use Rattle.model_meaning.specs.declared.model.Goal.TheVariants.{Satisfy, Minimize, Maximize}
use Rattle.statement_lower.specs.Terms.{integer_at}
use Rattle.answer_document.specs.declared.verdict.Bounds.{Bounds}

-- an integer is at least a number, or at most
abbrev pub at_least : OrdInt → ℤ → Atom
at_least a m = at_of a m

abbrev pub at_most : OrdInt → ℤ → Atom
at_most a m = not_atom (at_of a (m +ℤ pos 1))

-- what the name at a place stands for, as an integer
abbrev pub integer_named : List MapValue → ℕ → OrdInt
integer_named entries place = integer_at (slice_get entries place)

-- The bound of the first objective at a number: it is no better. So it is at least the number where the least is
-- sought, and at most where the greatest is.
abbrev pub first_bound : Goal → List MapValue → ℤ → Atom
first_bound Satisfy entries m = False
first_bound (Minimize place second) entries m = at_least (integer_named entries place) m
first_bound (Maximize place second) entries m = at_most (integer_named entries place) m

-- the bound of the second objective, where there is one
abbrev pub second_least : List MapValue → Option ℕ → ℤ → Atom
second_least entries None n = False
second_least entries (Some place) n = at_least (integer_named entries place) n

abbrev pub second_most : List MapValue → Option ℕ → ℤ → Atom
second_most entries None n = False
second_most entries (Some place) n = at_most (integer_named entries place) n

abbrev pub second_bound : Goal → List MapValue → ℤ → Atom
second_bound Satisfy entries n = False
second_bound (Minimize place second) entries n = second_least entries second n
second_bound (Maximize place second) entries n = second_most entries second n

-- the first objective is no worse than a number: what holds of it while the second one is sought
abbrev pub fixed : Goal → List MapValue → ℤ → Atom
fixed Satisfy entries m = True
fixed (Minimize place second) entries m = at_most (integer_named entries place) m
fixed (Maximize place second) entries m = at_least (integer_named entries place) m
