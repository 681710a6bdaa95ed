-- The atoms and the integers of terms, by what the declared names stand for.
use Rattle.std.specs.Prelude.{pos, Bool, true, false, List, map, slice_get, Option, Some, None, if◌then◌else◌}
use Rattle.order_ints.specs.declared.atom.Atom.{Atom}
use Rattle.order_ints.specs.declared.atom.Atom.TheVariants.{True, False}
use Rattle.order_ints.specs.declared.order_int.OrdInt.{OrdInt}
use Rattle.order_ints.specs.declared.order_int.MapValue.{MapValue}
use Rattle.order_ints.specs.declared.order_int.MapValue.TheVariants as values
use Rattle.order_ints.specs.Truth.{not_atom}
use Rattle.order_ints.specs.OrderMade.{constant_of, integer_of_atom}
use Rattle.model_meaning.specs.declared.what.BoolTerm.{BoolTerm}
use Rattle.model_meaning.specs.declared.what.BoolTerm.TheVariants as bool_term
use Rattle.model_meaning.specs.declared.what.IntTerm.{IntTerm}
use Rattle.model_meaning.specs.declared.what.IntTerm.TheVariants as int_term

-- the atom of a Boolean, and False where there is none
abbrev pub atom_at : Option MapValue → Atom
atom_at None = False
atom_at (Some (values.Bool a)) = a
atom_at (Some (values.Int a)) = False

-- the atom of a Boolean term
abbrev pub atom_of : List MapValue → BoolTerm → Atom
atom_of entries (bool_term.Const b) = if b then True else False
atom_of entries (bool_term.Of place positive) =
    if positive then atom_at (slice_get entries place) else not_atom (atom_at (slice_get entries place))

abbrev pub atoms_of : List MapValue → List BoolTerm → List Atom
atoms_of entries terms = map (atom_of entries) terms

-- the integer of an integer, and 0 where there is none
abbrev pub integer_at : Option MapValue → OrdInt
integer_at None = constant_of (pos 0)
integer_at (Some (values.Bool a)) = constant_of (pos 0)
integer_at (Some (values.Int a)) = a

-- the integer of an integer term: a numeral is a constant
abbrev pub integer_of : List MapValue → IntTerm → OrdInt
integer_of entries (int_term.Number n) = constant_of n
integer_of entries (int_term.Of place) = integer_at (slice_get entries place)

abbrev pub integers_of : List MapValue → List IntTerm → List OrdInt
integers_of entries terms = map (integer_of entries) terms

-- the atom of a Boolean term that may be left out; that of one that is left out is True
abbrev pub atom_or_true : List MapValue → Option BoolTerm → Atom
atom_or_true entries None = True
atom_or_true entries (Some x) = atom_of entries x

-- a list as integers: Booleans, each 1 where it is true and else 0, or integers
abbrev pub word_of : List MapValue → Bool → List BoolTerm → List IntTerm → List OrdInt
word_of entries true xs is = map integer_of_atom (atoms_of entries xs)
word_of entries false xs is = integers_of entries is
