-- A statement keeps the variables so far.
use Rattle.std.proofs.Common.{ℕ, zero, suc, ◌-◌, ◌≤◌, ℤ, List, [], ◌∷◌, ◌++◌, length, arith}
use Rattle.order_ints.specs.declared.atom.Atom.{Atom}
use Rattle.order_ints.specs.declared.order_int.OrdInt.{OrdInt}
use Rattle.model_meaning.specs.declared.what.What.TheVariants.{
  BoolToInt,
  BoolEq,
  BoolOp,
  BoolArray,
  BoolArrayReified,
  Compare,
  CompareReified,
  BoolSum,
  BoolLinear,
  IntSum,
  IntLinear,
  IntOp,
  Absolute,
  IntArray,
  IntAllDifferent,
  Lexicographic,
}
use Rattle.model_meaning.specs.declared.statement.Operator.{Operator}
use Rattle.model_meaning.specs.declared.statement.Operator.TheVariants as operator
use Rattle.model_meaning.specs.declared.statement.Relation.{Relation}
use Rattle.model_meaning.specs.declared.statement.Relation.TheVariants as relation
use Rattle.model_meaning.specs.declared.statement.Arithmetic.{Arithmetic}
use Rattle.model_meaning.specs.declared.statement.Arithmetic.TheVariants as arithmetic
use Rattle.model_meaning.specs.declared.statement.Aggregate.{Aggregate}
use Rattle.model_meaning.specs.declared.statement.Aggregate.TheVariants as aggregate
use Rattle.model_meaning.specs.declared.statement.AllDifferent.{AllDifferent}
use Rattle.model_meaning.specs.declared.statement.AllDifferent.TheVariants as all_different
use Rattle.model_meaning.specs.Holds.{terms_or_none}
use Rattle.statement_lower.specs.Terms.{atom_of, atoms_of, integer_of, integers_of, atom_or_true}
use Rattle.statement_lower.specs.Lines.{operator_made, count_made, operation_made, aggregate_made, different_made}
use Rattle.statement_lower.specs.Queue.{fresh_sum, vars_behind_sum, queue_made}
use Rattle.statement_lower.specs.Linear.{with_steps, constant_of_members, linear_members, compared_sum, linear_made}
use Rattle.statement_lower.specs.Lines.{scaled_truths, scaled_integers}
use Rattle.statement_lower.specs.Lowers.{VariablesLaw}
use Rattle.statement_lower.proofs.Pairs.{pairs-more}

operator-more : (vars : ℕ) (op : Operator) (atoms : List Atom) (z : Atom) → vars ≤ (operator_made vars op atoms z).vars
operator-more vars operator.Or atoms z = omega arith
operator-more vars operator.And atoms z = omega arith
operator-more vars operator.Xor atoms z = omega arith
operator-more vars operator.Iff atoms z = omega arith

count-more : (vars : ℕ) (rel : Relation) (atoms : List Atom) (a : OrdInt) → vars ≤ (count_made vars rel atoms a).vars
count-more vars relation.Leq atoms a = omega arith
count-more vars relation.Geq atoms a = omega arith
count-more vars relation.Eq atoms a = omega arith
count-more vars relation.Lt atoms a = omega arith
count-more vars relation.Gt atoms a = omega arith
count-more vars relation.Neq atoms a = omega arith

operation-more : (vars : ℕ) (o : Arithmetic) (a b c : OrdInt) → vars ≤ (operation_made vars o a b c).vars
operation-more vars arithmetic.Plus a b c = omega arith
operation-more vars arithmetic.Times a b c = omega arith
operation-more vars arithmetic.Div a b c = omega arith
operation-more vars arithmetic.Mod a b c = omega arith
operation-more vars arithmetic.Max a b c = omega arith
operation-more vars arithmetic.Min a b c = omega arith

aggregate-more : (vars : ℕ) (o : Aggregate) (ints : List OrdInt) (a : OrdInt) → vars ≤ (aggregate_made vars o ints a).vars
aggregate-more vars aggregate.Plus ints a = omega arith
aggregate-more vars aggregate.Max ints a = omega arith
aggregate-more vars aggregate.Min ints a = omega arith

difference-more : (vars : ℕ) (d : AllDifferent) (ints : List OrdInt) (z : Atom) (cs : List Atom) → vars ≤ (different_made vars d ints z cs).vars
difference-more vars all_different.Plain ints z cs = omega arith
difference-more vars all_different.Reified ints z cs = pairs-more vars ints
difference-more vars all_different.Conditional ints z cs = omega arith

pub queue-more : (times vars : ℕ) (rel : Relation) (k : ℤ) (queue : List OrdInt) → vars ≤ (queue_made times vars rel k queue).vars
queue-more times vars rel k [] = omega arith
queue-more times vars rel k (a ∷ []) = omega arith
queue-more zero vars rel k (a ∷ b ∷ rest) = omega arith
queue-more (suc times) vars rel k (a ∷ b ∷ rest) =
    omega (arith, queue-more times (vars_behind_sum vars a b) rel k (rest ++ fresh_sum vars a b ∷ []))

compared-more : (vars : ℕ) (rel : Relation) (ints : List OrdInt) (a : OrdInt) → vars ≤ (compared_sum vars rel (linear_members ints a)).vars
compared-more vars rel ints a =
    let members : List OrdInt = linear_members ints a in
    queue-more (length (with_steps members) - 2) vars rel (constant_of_members members) (with_steps members)

linear-more : (vars : ℕ) (rel : Relation) (ints : List OrdInt) (a : OrdInt) → vars ≤ (linear_made vars rel ints a).vars
linear-more vars relation.Leq ints a = compared-more vars relation.Leq ints a
linear-more vars relation.Geq ints a = compared-more vars relation.Geq ints a
linear-more vars relation.Eq ints a = omega arith
linear-more vars relation.Lt ints a = compared-more vars relation.Lt ints a
linear-more vars relation.Gt ints a = compared-more vars relation.Gt ints a
linear-more vars relation.Neq ints a = compared-more vars relation.Neq ints a

pub variables_law : VariablesLaw
variables_law vars entries (BoolToInt x i) = omega arith
variables_law vars entries (BoolEq x y) = omega arith
variables_law vars entries (BoolOp name op x y z) = operator-more vars op (atom_of entries x ∷ atom_of entries y ∷ []) (atom_of entries z)
variables_law vars entries (BoolArray name op xs) = omega arith
variables_law vars entries (BoolArrayReified name op xs z) = operator-more vars op (atoms_of entries xs) (atom_of entries z)
variables_law vars entries (Compare name rel i j) = omega arith
variables_law vars entries (CompareReified name rel i j z) = omega arith
variables_law vars entries (BoolSum name rel xs i) = count-more vars rel (atoms_of entries xs) (integer_of entries i)
variables_law vars entries (BoolLinear name rel cs xs i) = linear-more vars rel (scaled_truths entries cs xs) (integer_of entries i)
variables_law vars entries (IntSum name rel is i) = linear-more vars rel (integers_of entries is) (integer_of entries i)
variables_law vars entries (IntLinear name rel cs is i) = linear-more vars rel (scaled_integers entries cs is) (integer_of entries i)
variables_law vars entries (IntOp name o i j k) = operation-more vars o (integer_of entries i) (integer_of entries j) (integer_of entries k)
variables_law vars entries (Absolute i j) = omega arith
variables_law vars entries (IntArray name o is i) = aggregate-more vars o (integers_of entries is) (integer_of entries i)
variables_law vars entries (IntAllDifferent name d is z xs) = difference-more vars d (integers_of entries is) (atom_or_true entries z) (atoms_of entries (terms_or_none xs))
variables_law vars entries (Lexicographic name o xs ys is js z) = omega arith
