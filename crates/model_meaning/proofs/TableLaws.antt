-- The test of a statement is true exactly where the statement holds, line by line.
use Rattle.std.proofs.Common.{ℤ, Bool, List, IsTrue}
use Rattle.std.specs.Bool.{Decides}
use Rattle.std.proofs.lemmas.Bool.Decides.{Decides-int_eq}
use Rattle.model_meaning.specs.declared.what.What.{What}
use Rattle.model_meaning.specs.declared.what.What.TheVariants.{
  BoolToInt,
  BoolEq,
  BoolOp,
  BoolArray,
  BoolArrayReified,
  Compare,
  CompareReified,
  BoolSum,
  BoolLinear,
  IntSum,
  IntLinear,
  IntOp,
  Absolute,
  IntArray,
  IntAllDifferent,
  Lexicographic,
}
use Rattle.model_meaning.specs.declared.statement.Arithmetic.{Arithmetic}
use Rattle.model_meaning.specs.declared.statement.Arithmetic.TheVariants.{Plus, Times, Div, Mod, Max, Min}
use Rattle.model_meaning.specs.declared.statement.Aggregate.{Aggregate}
use Rattle.model_meaning.specs.declared.statement.Aggregate.TheVariants as aggregate
use Rattle.model_meaning.specs.declared.statement.AllDifferent.{AllDifferent}
use Rattle.model_meaning.specs.declared.statement.AllDifferent.TheVariants as all_different
use Rattle.model_meaning.specs.Integers.{gives, Gives, is_aggregate, IsAggregate}
use Rattle.model_meaning.specs.Holds.{Holds, holds, MembersDiffer, members_differ}
use Rattle.model_meaning.proofs.HoldsLaws.{Decides-same, Decides-truth, Decides-reify, Decides-is_quotient, Decides-all_differ, Decides-differ_where, Decides-in_order}
use Rattle.model_meaning.proofs.Remainders.{Decides-is_remainder}

Decides-itself : (b : Bool) → Decides b (IsTrue b)
Decides-itself b = (λ e. e, λ e. e)

Decides-gives : (o : Arithmetic) (i j k : ℤ) → Decides (gives o i j k) (Gives o i j k)
Decides-gives Plus i j k = Decides-int_eq k _
Decides-gives Times i j k = Decides-int_eq k _
Decides-gives Div i j k = Decides-is_quotient i j k
Decides-gives Mod i j k = Decides-is_remainder i j k
Decides-gives Max i j k = Decides-itself _
Decides-gives Min i j k = Decides-itself _

Decides-is_aggregate : (o : Aggregate) (xs : List ℤ) (i : ℤ) → Decides (is_aggregate o xs i) (IsAggregate o xs i)
Decides-is_aggregate aggregate.Plus xs i = Decides-int_eq i _
Decides-is_aggregate aggregate.Max xs i = Decides-itself _
Decides-is_aggregate aggregate.Min xs i = Decides-itself _

Decides-members_differ : (d : AllDifferent) (xs : List ℤ) (z : Bool) (cs : List Bool) → Decides (members_differ d xs z cs) (MembersDiffer d xs z cs)
Decides-members_differ all_different.Plain xs z cs = Decides-all_differ xs
Decides-members_differ all_different.Reified xs z cs = Decides-truth z _ (Decides-all_differ xs)
Decides-members_differ all_different.Conditional xs z cs = Decides-differ_where xs cs

pub Decides-holds : (a : List ℤ) (w : What) → Decides (holds a w) (Holds a w)
unfolding holds Holds
Decides-holds a (BoolToInt x i) = Decides-int_eq _ _
Decides-holds a (BoolEq x y) = Decides-same _ _
Decides-holds a (BoolOp name op x y z) = Decides-same _ _
Decides-holds a (BoolArray name op xs) = Decides-itself _
Decides-holds a (BoolArrayReified name op xs z) = Decides-same _ _
Decides-holds a (Compare name rel i j) = Decides-itself _
Decides-holds a (CompareReified name rel i j z) = Decides-same _ _
Decides-holds a (BoolSum name rel xs i) = Decides-itself _
Decides-holds a (BoolLinear name rel cs xs i) = Decides-itself _
Decides-holds a (IntSum name rel is i) = Decides-itself _
Decides-holds a (IntLinear name rel cs is i) = Decides-itself _
Decides-holds a (IntOp name o i j k) = Decides-gives o _ _ _
Decides-holds a (Absolute i j) = Decides-int_eq _ _
Decides-holds a (IntArray name o is i) = Decides-is_aggregate o _ _
Decides-holds a (IntAllDifferent name d is z xs) = Decides-members_differ d _ _ _
Decides-holds a (Lexicographic name o xs ys is js z) = Decides-reify o.reified _ _ (Decides-in_order o.strict _ _)
