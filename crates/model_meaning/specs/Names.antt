-- Which name is which statement.
use Rattle.std.specs.Prelude.{ℕ, ◌-◌, Bool, true, false, List, length, take, drop, codes, Option, Some, None}
use Rattle.std.specs.Prelude.{if◌then◌else◌}
use Rattle.std.specs.Option.{option_and_then, option_map}
use Rattle.std.specs.Str.{bytes_eq}
use Rattle.model_meaning.specs.declared.statement.Relation.{Relation}
use Rattle.model_meaning.specs.declared.statement.Relation.TheVariants as relation
use Rattle.model_meaning.specs.declared.statement.Operator.{Operator}
use Rattle.model_meaning.specs.declared.statement.Operator.TheVariants as operator
use Rattle.model_meaning.specs.declared.statement.Arithmetic.{Arithmetic}
use Rattle.model_meaning.specs.declared.statement.Arithmetic.TheVariants as arithmetic
use Rattle.model_meaning.specs.declared.statement.Aggregate.{Aggregate}
use Rattle.model_meaning.specs.declared.statement.Aggregate.TheVariants as aggregate
use Rattle.model_meaning.specs.declared.statement.AllDifferent.{AllDifferent}
use Rattle.model_meaning.specs.declared.statement.AllDifferent.TheVariants as all_different
use Rattle.model_meaning.specs.declared.statement.Order.{Order}
use Rattle.model_meaning.specs.declared.statement.Statement.{Statement}
use Rattle.model_meaning.specs.declared.statement.Statement.TheVariants as statement

-- the first of two answers that is there
abbrev pub first_of : {A : Type 0} → Option A → Option A → Option A
first_of (Some x) b = Some x
first_of None b = b

-- what follows a front of a name
abbrev pub after : List ℕ → List ℕ → Option (List ℕ)
after front name = if bytes_eq (take (length front) name) front then Some (drop (length front) name) else None

-- what stands before an end of a name
abbrev pub before : List ℕ → List ℕ → Option (List ℕ)
before end name = if bytes_eq (drop (length name - length end) name) end
    then Some (take (length name - length end) name) else None

-- what stands between the two
abbrev pub between : List ℕ → List ℕ → List ℕ → Option (List ℕ)
between front end name = option_and_then (before end) (after front name)

-- REL in a name
abbrev pub relation_of : List ℕ → Option Relation
relation_of word = if bytes_eq word (codes "leq") then Some relation.Leq else
    (if bytes_eq word (codes "geq") then Some relation.Geq else
    (if bytes_eq word (codes "eq") then Some relation.Eq else
    (if bytes_eq word (codes "lt") then Some relation.Lt else
    (if bytes_eq word (codes "gt") then Some relation.Gt else
    (if bytes_eq word (codes "neq") then Some relation.Neq else None)))))

-- OP in a name
abbrev pub operator_of : List ℕ → Option Operator
operator_of word = if bytes_eq word (codes "or") then Some operator.Or else
    (if bytes_eq word (codes "and") then Some operator.And else
    (if bytes_eq word (codes "xor") then Some operator.Xor else
    (if bytes_eq word (codes "iff") then Some operator.Iff else None)))

-- the last word of a name of an operation on two integers
abbrev pub arithmetic_of : List ℕ → Option Arithmetic
arithmetic_of word = if bytes_eq word (codes "plus") then Some arithmetic.Plus else
    (if bytes_eq word (codes "times") then Some arithmetic.Times else
    (if bytes_eq word (codes "div") then Some arithmetic.Div else
    (if bytes_eq word (codes "mod") then Some arithmetic.Mod else
    (if bytes_eq word (codes "max") then Some arithmetic.Max else
    (if bytes_eq word (codes "min") then Some arithmetic.Min else None)))))

-- the last word of a name of an operation on a list of integers
abbrev pub aggregate_of : List ℕ → Option Aggregate
aggregate_of word = if bytes_eq word (codes "plus") then Some aggregate.Plus else
    (if bytes_eq word (codes "max") then Some aggregate.Max else
    (if bytes_eq word (codes "min") then Some aggregate.Min else None))

-- the last word of a name that says that members differ
abbrev pub all_different_of : List ℕ → Option AllDifferent
all_different_of word = if bytes_eq word (codes "allDiff") then Some all_different.Plain else
    (if bytes_eq word (codes "allDiff_reif") then Some all_different.Reified else
    (if bytes_eq word (codes "allDiffCond") then Some all_different.Conditional else None))

-- the last word of a name that says that two lists are in order; b says whether they are of Booleans
abbrev pub order_of : Bool → List ℕ → Option Order
order_of b word =
    if bytes_eq word (codes "lex") then Some (record { of_booleans = b; strict = false; reified = false }) else
    (if bytes_eq word (codes "lexLt") then Some (record { of_booleans = b; strict = true; reified = false }) else
    (if bytes_eq word (codes "lex_reif") then Some (record { of_booleans = b; strict = false; reified = true }) else
    (if bytes_eq word (codes "lexLt_reif") then Some (record { of_booleans = b; strict = true; reified = true })
    else None)))

-- the names that share no form with others
unfoldable pub lone_statement : List ℕ → Option Statement
lone_statement name = if bytes_eq name (codes "new_bool") then Some statement.NewBool else
    (if bytes_eq name (codes "new_int") then Some statement.NewInt else
    (if bytes_eq name (codes "bool2int") then Some statement.BoolToInt else
    (if bytes_eq name (codes "bool_eq") then Some statement.BoolEq else
    (if bytes_eq name (codes "int_abs") then Some statement.Absolute else None))))

-- `bool_OP_reif`, `bool_array_OP`, `bool_array_OP_reif`
unfoldable pub operator_statement : List ℕ → Option Statement
operator_statement name =
    first_of (option_map statement.BoolOp (option_and_then operator_of (between (codes "bool_") (codes "_reif") name)))
    (first_of (option_map statement.BoolArray (option_and_then operator_of (after (codes "bool_array_") name)))
    (option_map statement.BoolArrayReified
    (option_and_then operator_of (between (codes "bool_array_") (codes "_reif") name))))

-- `int_REL`, `int_REL_reif`, `bool_array_sum_REL`, `bool_array_pb_REL`, `int_array_sum_REL`, `int_array_lin_REL`
unfoldable pub relation_statement : List ℕ → Option Statement
relation_statement name =
    first_of (option_map statement.Compare (option_and_then relation_of (after (codes "int_") name)))
    (first_of (option_map statement.CompareReified
    (option_and_then relation_of (between (codes "int_") (codes "_reif") name)))
    (first_of (option_map statement.BoolSum (option_and_then relation_of (after (codes "bool_array_sum_") name)))
    (first_of (option_map statement.BoolLinear (option_and_then relation_of (after (codes "bool_array_pb_") name)))
    (first_of (option_map statement.IntSum (option_and_then relation_of (after (codes "int_array_sum_") name)))
    (option_map statement.IntLinear (option_and_then relation_of (after (codes "int_array_lin_") name)))))))

-- `int_plus`, `int_times`, `int_div`, `int_mod`, `int_max`, `int_min`; `int_array_plus`,
-- `int_array_max`, `int_array_min`; `int_array_allDiff`, `int_array_allDiff_reif`, `int_array_allDiffCond`;
-- `bool_arrays_` or `int_arrays_`, then `lex` or `lexLt`, and `_reif` where a Boolean is the truth of it
unfoldable pub operation_statement : List ℕ → Option Statement
operation_statement name =
    first_of (option_map statement.IntOp (option_and_then arithmetic_of (after (codes "int_") name)))
    (first_of (option_map statement.IntArray (option_and_then aggregate_of (after (codes "int_array_") name)))
    (first_of (option_map statement.IntAllDifferent
    (option_and_then all_different_of (after (codes "int_array_") name)))
    (first_of (option_map statement.Lexicographic (option_and_then (order_of true) (after (codes "bool_arrays_") name)))
    (option_map statement.Lexicographic (option_and_then (order_of false) (after (codes "int_arrays_") name))))))

-- the declaration or statement of a name, where it is one
unfoldable pub statement_of : List ℕ → Option Statement
statement_of name =
    first_of (lone_statement name)
    (first_of (operator_statement name) (first_of (relation_statement name) (operation_statement name)))
