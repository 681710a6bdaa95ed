-- What a statement is lowered to, line by line of the table of statements: the number of variables behind its fresh
-- ones, and its cores.
use Rattle.std.specs.Prelude.{ℕ, ◌+◌, ◌/◌, min, ℤ, pos, ◌-ℤ◌, true, false, List, [], ◌∷◌}
use Rattle.std.specs.Prelude.{◌++◌, length, map, Option, if◌then◌else◌}
use Rattle.order_ints.specs.declared.atom.Atom.{Atom}
use Rattle.order_ints.specs.declared.atom.Atom.TheVariants.{True}
use Rattle.order_ints.specs.declared.order_int.OrdInt.{OrdInt}
use Rattle.order_ints.specs.declared.order_int.MapValue.{MapValue}
use Rattle.order_ints.specs.Truth.{not_atom}
use Rattle.order_ints.specs.OrderMade.{integer_of_atom, unit_range_of}
use Rattle.order_ints.specs.OrderRange.{low_of, high_of}
use Rattle.order_ints.specs.OrderChange.{negated_of}
use Rattle.core_forms.specs.declared.form.Core.{Core}
use Rattle.core_forms.specs.declared.form.Core.TheVariants as core
use Rattle.model_meaning.specs.declared.what.What.{What}
use Rattle.model_meaning.specs.declared.what.What.TheVariants.{
  BoolToInt,
  BoolEq,
  BoolOp,
  BoolArray,
  BoolArrayReified,
  Compare,
  CompareReified,
  BoolSum,
  BoolLinear,
  IntSum,
  IntLinear,
  IntOp,
  Absolute,
  IntArray,
  IntAllDifferent,
  Lexicographic,
}
use Rattle.model_meaning.specs.declared.statement.Operator.{Operator}
use Rattle.model_meaning.specs.declared.statement.Operator.TheVariants as operator
use Rattle.model_meaning.specs.declared.statement.Relation.{Relation}
use Rattle.model_meaning.specs.declared.statement.Relation.TheVariants as relation
use Rattle.model_meaning.specs.declared.statement.Arithmetic.{Arithmetic}
use Rattle.model_meaning.specs.declared.statement.Arithmetic.TheVariants as arithmetic
use Rattle.model_meaning.specs.declared.statement.Aggregate.{Aggregate}
use Rattle.model_meaning.specs.declared.statement.Aggregate.TheVariants as aggregate
use Rattle.model_meaning.specs.declared.what.BoolTerm.{BoolTerm}
use Rattle.model_meaning.specs.declared.what.IntTerm.{IntTerm}
use Rattle.model_meaning.specs.declared.statement.AllDifferent.{AllDifferent}
use Rattle.model_meaning.specs.declared.statement.AllDifferent.TheVariants as all_different
use Rattle.model_meaning.specs.declared.statement.Order.{Order}
use Rattle.model_meaning.specs.Domains.{at_least_zero}
use Rattle.model_meaning.specs.Holds.{terms_or_none}
use Rattle.statement_lower.specs.declared.made.MadeCores.{MadeCores}
use Rattle.statement_lower.specs.Terms.{atom_of, atoms_of, integer_of, integers_of, atom_or_true, word_of}
use Rattle.statement_lower.specs.Fresh.{fresh_atom, second_fresh_atom}
use Rattle.statement_lower.specs.Comparison.{comparison_core}
use Rattle.statement_lower.specs.Pairs.{difference_made}
use Rattle.statement_lower.specs.Linear.{scaled_each, linear_made}

-- cores without a fresh variable
abbrev pub made_here : ℕ → List Core → MadeCores
made_here vars cores = record { vars = vars; cores = cores }

-- an integer is 1 where an atom is true, and else 0
abbrev pub bit_core : Atom → OrdInt → Core
bit_core x a = core.EqR True a (integer_of_atom x)

-- two atoms are equal: an even number of them is true
abbrev pub equal_core : Atom → Atom → Core
equal_core x y = core.Parity (x ∷ y ∷ []) false

-- each further atom equals the first one
abbrev pub equal_cores : List Atom → List Core
equal_cores [] = []
equal_cores (x ∷ atoms) = map (equal_core x) atoms

-- an operator of a list is true
abbrev pub array_cores : Operator → List Atom → List Core
array_cores operator.Or atoms = core.Clause atoms ∷ []
array_cores operator.And atoms = core.Conj True atoms ∷ []
array_cores operator.Xor atoms = core.Parity atoms true ∷ []
array_cores operator.Iff atoms = equal_cores atoms

-- all are true, none is true, and z is the truth of one of these
abbrev pub all_equal_cores : Atom → Atom → List Atom → Atom → List Core
all_equal_cores all none atoms z =
    core.Conj all atoms ∷ core.Conj none (map not_atom atoms)
    ∷ core.Conj (not_atom z) (not_atom all ∷ not_atom none ∷ []) ∷ []

-- `bool_OP_reif`, `bool_array_OP_reif`: z is the truth of an operator of a list
abbrev pub operator_made : ℕ → Operator → List Atom → Atom → MadeCores
operator_made vars operator.Or atoms z = made_here vars (core.Conj (not_atom z) (map not_atom atoms) ∷ [])
operator_made vars operator.And atoms z = made_here vars (core.Conj z atoms ∷ [])
operator_made vars operator.Xor atoms z = made_here vars (core.Parity (atoms ++ z ∷ []) false ∷ [])
operator_made vars operator.Iff atoms z = record {
  vars = vars + 1 + 1;
  cores = all_equal_cores (fresh_atom vars) (second_fresh_atom vars) atoms z;
}

-- a fresh integer from 0 to `most`, with a variable for each value but 0
abbrev pub fresh_range : ℕ → ℕ → OrdInt
fresh_range vars most = unit_range_of (pos 0) (vars + 1) most

-- a fresh integer is the number of true members, and it is compared
abbrev pub compared_count : ℕ → Relation → List Atom → OrdInt → MadeCores
compared_count vars rel atoms a = record {
  vars = vars + length atoms;
  cores =
      core.Count atoms (fresh_range vars (length atoms))
      ∷ comparison_core rel True (fresh_range vars (length atoms)) a ∷ [];
}

-- the number of true members is compared
abbrev pub count_made : ℕ → Relation → List Atom → OrdInt → MadeCores
count_made vars relation.Leq atoms a = compared_count vars relation.Leq atoms a
count_made vars relation.Geq atoms a = compared_count vars relation.Geq atoms a
count_made vars relation.Eq atoms a = made_here vars (core.Count atoms a ∷ [])
count_made vars relation.Lt atoms a = compared_count vars relation.Lt atoms a
count_made vars relation.Gt atoms a = compared_count vars relation.Gt atoms a
count_made vars relation.Neq atoms a = compared_count vars relation.Neq atoms a

-- an integer is the least member: minus the integer is the greatest one of the negated members
abbrev pub least_core : List OrdInt → OrdInt → Core
least_core ints a = core.Max (map negated_of ints) (negated_of a)

-- the greatest remainder, where the least dividend is not negative and the least divisor is positive
abbrev pub most_remainder : OrdInt → OrdInt → ℕ
most_remainder a b = min (at_least_zero (high_of a)) (at_least_zero (high_of b -ℤ pos 1))

-- and the greatest quotient
abbrev pub most_quotient : OrdInt → OrdInt → ℕ
most_quotient a b = at_least_zero (high_of a) / at_least_zero (low_of b)

-- linear sums: the members are multiplied by their coefficients; a Boolean is 1 where it is true and else 0
abbrev pub scaled_truths : List MapValue → List ℤ → List BoolTerm → List OrdInt
scaled_truths entries cs xs = scaled_each cs (map integer_of_atom (atoms_of entries xs))

abbrev pub scaled_integers : List MapValue → List ℤ → List IntTerm → List OrdInt
scaled_integers entries cs is = scaled_each cs (integers_of entries is)

-- an operation on two integers gives the third
abbrev pub operation_made : ℕ → Arithmetic → OrdInt → OrdInt → OrdInt → MadeCores
operation_made vars arithmetic.Plus a b c = made_here vars (core.Sum3 a b c ∷ [])
operation_made vars arithmetic.Times a b c = made_here vars (core.Prod a b c ∷ [])
operation_made vars arithmetic.Div a b c = record {
  vars = vars + most_remainder a b;
  cores = core.DivMod a b c (fresh_range vars (most_remainder a b)) ∷ [];
}
operation_made vars arithmetic.Mod a b c = record {
  vars = vars + most_quotient a b;
  cores = core.DivMod a b (fresh_range vars (most_quotient a b)) c ∷ [];
}
operation_made vars arithmetic.Max a b c = made_here vars (core.Max (a ∷ b ∷ []) c ∷ [])
operation_made vars arithmetic.Min a b c = made_here vars (least_core (a ∷ b ∷ []) c ∷ [])

-- the absolute value is the greater one of an integer and minus it
abbrev pub absolute_core : OrdInt → OrdInt → Core
absolute_core a b = core.Max (a ∷ negated_of a ∷ []) b

-- an operation on a list gives an integer
abbrev pub aggregate_made : ℕ → Aggregate → List OrdInt → OrdInt → MadeCores
aggregate_made vars aggregate.Plus ints a = linear_made vars relation.Eq ints a
aggregate_made vars aggregate.Max ints a = made_here vars (core.Max ints a ∷ [])
aggregate_made vars aggregate.Min ints a = made_here vars (least_core ints a ∷ [])

-- members differ, all of them, or z is the truth of that, or those with true conditions differ
abbrev pub different_made : ℕ → AllDifferent → List OrdInt → Atom → List Atom → MadeCores
different_made vars all_different.Plain ints z cs = made_here vars (core.AllDiff ints (map (λ _. True) ints) ∷ [])
different_made vars all_different.Reified ints z cs = difference_made vars ints z
different_made vars all_different.Conditional ints z cs = made_here vars (core.AllDiff ints cs ∷ [])

-- r is the truth of the order of two lists, or it is True
abbrev pub order_core : List MapValue → Order → List BoolTerm → List BoolTerm → List IntTerm → List IntTerm
    → Option BoolTerm → Core
order_core entries o xs ys is js z =
    core.Lex (if o.reified then atom_or_true entries z else True) o.strict (word_of entries o.of_booleans xs is)
    (word_of entries o.of_booleans ys js)

-- a statement, behind so many variables
abbrev pub made_of : ℕ → List MapValue → What → MadeCores
made_of vars entries (BoolToInt x i) = made_here vars (bit_core (atom_of entries x) (integer_of entries i) ∷ [])
made_of vars entries (BoolEq x y) = made_here vars (equal_core (atom_of entries x) (atom_of entries y) ∷ [])
made_of vars entries (BoolOp name op x y z) =
    operator_made vars op (atom_of entries x ∷ atom_of entries y ∷ []) (atom_of entries z)
made_of vars entries (BoolArray name op xs) = made_here vars (array_cores op (atoms_of entries xs))
made_of vars entries (BoolArrayReified name op xs z) = operator_made vars op (atoms_of entries xs) (atom_of entries z)
made_of vars entries (Compare name rel i j) =
    made_here vars (comparison_core rel True (integer_of entries i) (integer_of entries j) ∷ [])
made_of vars entries (CompareReified name rel i j z) =
    made_here vars (comparison_core rel (atom_of entries z) (integer_of entries i) (integer_of entries j) ∷ [])
made_of vars entries (BoolSum name rel xs i) = count_made vars rel (atoms_of entries xs) (integer_of entries i)
made_of vars entries (BoolLinear name rel cs xs i) =
    linear_made vars rel (scaled_truths entries cs xs) (integer_of entries i)
made_of vars entries (IntSum name rel is i) = linear_made vars rel (integers_of entries is) (integer_of entries i)
made_of vars entries (IntLinear name rel cs is i) =
    linear_made vars rel (scaled_integers entries cs is) (integer_of entries i)
made_of vars entries (IntOp name o i j k) =
    operation_made vars o (integer_of entries i) (integer_of entries j) (integer_of entries k)
made_of vars entries (Absolute i j) =
    made_here vars (absolute_core (integer_of entries i) (integer_of entries j) ∷ [])
made_of vars entries (IntArray name o is i) = aggregate_made vars o (integers_of entries is) (integer_of entries i)
made_of vars entries (IntAllDifferent name d is z xs) =
    different_made vars d (integers_of entries is) (atom_or_true entries z) (atoms_of entries (terms_or_none xs))
made_of vars entries (Lexicographic name o xs ys is js z) =
    made_here vars (order_core entries o (terms_or_none xs) (terms_or_none ys) (terms_or_none is) (terms_or_none js) z
    ∷ [])
