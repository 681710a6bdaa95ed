-- What terms are worth under an assignment, which is a list of whole numbers, one for each declaration.
use Rattle.std.specs.Prelude.{ℕ, ℤ, pos, Bool, not, List, map, slice_index_or, if◌then◌else◌}
use Rattle.std.specs.Ordering.{int_eq}
use Rattle.model_meaning.specs.declared.what.BoolTerm.{BoolTerm}
use Rattle.model_meaning.specs.declared.what.BoolTerm.TheVariants as bool_term
use Rattle.model_meaning.specs.declared.what.IntTerm.{IntTerm}
use Rattle.model_meaning.specs.declared.what.IntTerm.TheVariants as int_term

-- the value of the declaration at a place
abbrev pub value_at : List ℤ → ℕ → ℤ
value_at values place = slice_index_or values place (pos 0)

-- whether the Boolean declared at a place is true: its value is 1
abbrev pub is_one : List ℤ → ℕ → Bool
is_one values place = int_eq (value_at values place) (pos 1)

-- whether a Boolean term is true
abbrev pub truth_of : List ℤ → BoolTerm → Bool
truth_of values (bool_term.Const b) = b
truth_of values (bool_term.Of place positive) = if positive then is_one values place else not (is_one values place)

-- the value of an integer term
abbrev pub number_of : List ℤ → IntTerm → ℤ
number_of values (int_term.Number n) = n
number_of values (int_term.Of place) = value_at values place

-- the truth values of a list of Boolean terms
abbrev pub truths_of : List ℤ → List BoolTerm → List Bool
truths_of values terms = map (truth_of values) terms

-- the values of a list of integer terms
abbrev pub numbers_of : List ℤ → List IntTerm → List ℤ
numbers_of values terms = map (number_of values) terms

-- a truth value as a number: true is 1, false is 0
abbrev pub as_number : Bool → ℤ
as_number b = if b then pos 1 else pos 0
