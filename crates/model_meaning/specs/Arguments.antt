-- The arguments of a statement, in their order: one view of all lines of the table.
use Rattle.std.specs.Prelude.{ℕ, ℤ, List, [], ◌∷◌, map, Option, Some, None}
use Rattle.std.specs.Option.{option_map}
use Rattle.model_meaning.specs.declared.what.BoolTerm.{BoolTerm}
use Rattle.model_meaning.specs.declared.what.IntTerm.{IntTerm}
use Rattle.model_meaning.specs.declared.what.What.{What}
use Rattle.model_meaning.specs.declared.what.What.TheVariants.{
  BoolToInt,
  BoolEq,
  BoolOp,
  BoolArray,
  BoolArrayReified,
  Compare,
  CompareReified,
  BoolSum,
  BoolLinear,
  IntSum,
  IntLinear,
  IntOp,
  Absolute,
  IntArray,
  IntAllDifferent,
  Lexicographic,
}
use Rattle.model_meaning.specs.declared.statement.Statement.{Statement}
use Rattle.model_meaning.specs.declared.statement.Statement.TheVariants as statement
use Rattle.model_meaning.specs.declared.arguments.Argument.{Argument as LentArgument}
use Rattle.model_meaning.specs.declared.arguments.Argument.TheVariants as lent

-- a Boolean term, an integer term, or a list of one kind
pub data Argument : Type 0 where
  Truth : (x : BoolTerm) → Argument
  Number : (i : IntTerm) → Argument
  Truths : (xs : List BoolTerm) → Argument
  Numbers : (is : List IntTerm) → Argument
  Numerals : (cs : List ℤ) → Argument

-- those that aren't left out
abbrev pub given : {A : Type 0} → List (Option A) → List A
given [] = []
given (None ∷ rest) = given rest
given (Some a ∷ rest) = a ∷ given rest

-- the arguments, line by line
abbrev pub arguments_of : What → List Argument
arguments_of (BoolToInt x i) = Truth x ∷ Number i ∷ []
arguments_of (BoolEq x y) = Truth x ∷ Truth y ∷ []
arguments_of (BoolOp name op x y z) = Truth x ∷ Truth y ∷ Truth z ∷ []
arguments_of (BoolArray name op xs) = Truths xs ∷ []
arguments_of (BoolArrayReified name op xs z) = Truths xs ∷ Truth z ∷ []
arguments_of (Compare name rel i j) = Number i ∷ Number j ∷ []
arguments_of (CompareReified name rel i j z) = Number i ∷ Number j ∷ Truth z ∷ []
arguments_of (BoolSum name rel xs i) = Truths xs ∷ Number i ∷ []
arguments_of (BoolLinear name rel cs xs i) = Numerals cs ∷ Truths xs ∷ Number i ∷ []
arguments_of (IntSum name rel is i) = Numbers is ∷ Number i ∷ []
arguments_of (IntLinear name rel cs is i) = Numerals cs ∷ Numbers is ∷ Number i ∷ []
arguments_of (IntOp name o i j k) = Number i ∷ Number j ∷ Number k ∷ []
arguments_of (Absolute i j) = Number i ∷ Number j ∷ []
arguments_of (IntArray name o is i) = Numbers is ∷ Number i ∷ []
arguments_of (IntAllDifferent name d is z xs) =
    given (Some (Numbers is) ∷ option_map Truth z ∷ option_map Truths xs ∷ [])
arguments_of (Lexicographic name o xs ys is js z) =
    given (option_map Truths xs ∷ option_map Truths ys ∷ option_map Numbers is ∷ option_map Numbers js
    ∷ option_map Truth z ∷ [])

-- the statement that a line states
abbrev pub statement_in : What → Statement
statement_in (BoolToInt x i) = statement.BoolToInt
statement_in (BoolEq x y) = statement.BoolEq
statement_in (BoolOp name op x y z) = statement.BoolOp op
statement_in (BoolArray name op xs) = statement.BoolArray op
statement_in (BoolArrayReified name op xs z) = statement.BoolArrayReified op
statement_in (Compare name rel i j) = statement.Compare rel
statement_in (CompareReified name rel i j z) = statement.CompareReified rel
statement_in (BoolSum name rel xs i) = statement.BoolSum rel
statement_in (BoolLinear name rel cs xs i) = statement.BoolLinear rel
statement_in (IntSum name rel is i) = statement.IntSum rel
statement_in (IntLinear name rel cs is i) = statement.IntLinear rel
statement_in (IntOp name o i j k) = statement.IntOp o
statement_in (Absolute i j) = statement.Absolute
statement_in (IntArray name o is i) = statement.IntArray o
statement_in (IntAllDifferent name d is z xs) = statement.IntAllDifferent d
statement_in (Lexicographic name o xs ys is js z) = statement.Lexicographic o

-- the name of a statement, where its line has several
abbrev pub own_name : What → Option (List ℕ)
own_name (BoolToInt x i) = None
own_name (BoolEq x y) = None
own_name (BoolOp name op x y z) = Some name
own_name (BoolArray name op xs) = Some name
own_name (BoolArrayReified name op xs z) = Some name
own_name (Compare name rel i j) = Some name
own_name (CompareReified name rel i j z) = Some name
own_name (BoolSum name rel xs i) = Some name
own_name (BoolLinear name rel cs xs i) = Some name
own_name (IntSum name rel is i) = Some name
own_name (IntLinear name rel cs is i) = Some name
own_name (IntOp name o i j k) = Some name
own_name (Absolute i j) = None
own_name (IntArray name o is i) = Some name
own_name (IntAllDifferent name d is z xs) = Some name
own_name (Lexicographic name o xs ys is js z) = Some name

-- What the code lends of them.

abbrev pub argument : LentArgument → Argument
argument (lent.Truth x) = Truth x
argument (lent.Number i) = Number i
argument (lent.Truths xs) = Truths xs.now
argument (lent.Numbers is) = Numbers is.now
argument (lent.Numerals cs) = Numerals cs.now

abbrev pub arguments : List (Option LentArgument) → List Argument
arguments lents = given (map (option_map argument) lents)
