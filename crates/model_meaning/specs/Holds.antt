-- When a statement holds under an assignment: the table of statements, line by line. Each line is read as
-- it is printed, over whole numbers and truth values.
use Rattle.std.specs.Prelude.{◌≡◌, ◌↔◌, ℤ, pos, unsigned_abs, Bool, true, false, not, List, [], ◌∷◌}
use Rattle.std.specs.Prelude.{map, Option, Some, None, IsTrue, if◌then◌else◌}
use Rattle.std.specs.Ordering.{int_eq}
use Rattle.model_meaning.specs.declared.what.BoolTerm.{BoolTerm}
use Rattle.model_meaning.specs.declared.what.What.{What}
use Rattle.model_meaning.specs.declared.what.What.TheVariants.{
  BoolToInt,
  BoolEq,
  BoolOp,
  BoolArray,
  BoolArrayReified,
  Compare,
  CompareReified,
  BoolSum,
  BoolLinear,
  IntSum,
  IntLinear,
  IntOp,
  Absolute,
  IntArray,
  IntAllDifferent,
  Lexicographic,
}
use Rattle.model_meaning.specs.declared.statement.AllDifferent.{AllDifferent}
use Rattle.model_meaning.specs.declared.statement.AllDifferent.TheVariants as all_different
use Rattle.model_meaning.specs.declared.statement.Order.{Order}
use Rattle.model_meaning.specs.Terms.{truth_of, number_of, truths_of, numbers_of, as_number}
use Rattle.model_meaning.specs.Booleans.{combine, count_true}
use Rattle.model_meaning.specs.Integers.{relates, total, weight_of_true, linear_sum, Gives, IsAggregate, gives}
use Rattle.model_meaning.specs.Integers.{is_aggregate}
use Rattle.model_meaning.specs.Lists.{AllDiffer, DifferWhere, InOrder, all_differ, differ_where, in_order}

-- the truth value of a term that may be left out; one that is left out is true
abbrev pub truth_or_true : List ℤ → Option BoolTerm → Bool
truth_or_true a None = true
truth_or_true a (Some z) = truth_of a z

-- the members of a list that may be left out; one that is left out has none
abbrev pub terms_or_none : {A : Type 0} → Option (List A) → List A
terms_or_none None = []
terms_or_none (Some xs) = xs

-- a fact, or, where it is reified, that z is its truth
abbrev pub Reify : Bool → Bool → Type 0 → Type 0
Reify false z P = P
Reify true z P = IsTrue z ↔ P

-- the members differ; z is the truth of that; the members whose conditions are true differ
abbrev pub MembersDiffer : AllDifferent → List ℤ → Bool → List Bool → Type 0
MembersDiffer all_different.Plain xs z cs = AllDiffer xs
MembersDiffer all_different.Reified xs z cs = IsTrue z ↔ AllDiffer xs
MembersDiffer all_different.Conditional xs z cs = DifferWhere xs cs

-- the lists are in order, or z is the truth of that. Of Booleans false comes before true
abbrev pub ListsInOrder : Order → List Bool → List Bool → List ℤ → List ℤ → Bool → Type 0
ListsInOrder o xs ys is js z =
    Reify o.reified z
    (InOrder o.strict (if o.of_booleans then map as_number xs else is)
    (if o.of_booleans then map as_number ys else js))

-- the statement holds; its name was read before
unfoldable pub Holds : List ℤ → What → Type 0
Holds a (BoolToInt x i) = number_of a i ≡ as_number (truth_of a x)
Holds a (BoolEq x y) = truth_of a x ≡ truth_of a y
Holds a (BoolOp name op x y z) = truth_of a z ≡ combine op (truth_of a x ∷ truth_of a y ∷ [])
Holds a (BoolArray name op xs) = IsTrue (combine op (truths_of a xs))
Holds a (BoolArrayReified name op xs z) = truth_of a z ≡ combine op (truths_of a xs)
Holds a (Compare name rel i j) = IsTrue (relates rel (number_of a i) (number_of a j))
Holds a (CompareReified name rel i j z) = truth_of a z ≡ relates rel (number_of a i) (number_of a j)
Holds a (BoolSum name rel xs i) = IsTrue (relates rel (pos (count_true (truths_of a xs))) (number_of a i))
Holds a (BoolLinear name rel cs xs i) = IsTrue (relates rel (weight_of_true cs (truths_of a xs)) (number_of a i))
Holds a (IntSum name rel is i) = IsTrue (relates rel (total (numbers_of a is)) (number_of a i))
Holds a (IntLinear name rel cs is i) = IsTrue (relates rel (linear_sum cs (numbers_of a is)) (number_of a i))
Holds a (IntOp name o i j k) = Gives o (number_of a i) (number_of a j) (number_of a k)
Holds a (Absolute i j) = number_of a j ≡ pos (unsigned_abs (number_of a i))
Holds a (IntArray name o is i) = IsAggregate o (numbers_of a is) (number_of a i)
Holds a (IntAllDifferent name d is z xs) =
    MembersDiffer d (numbers_of a is) (truth_or_true a z) (truths_of a (terms_or_none xs))
Holds a (Lexicographic name o xs ys is js z) =
    ListsInOrder o (truths_of a (terms_or_none xs)) (truths_of a (terms_or_none ys)) (numbers_of a (terms_or_none is))
    (numbers_of a (terms_or_none js)) (truth_or_true a z)

-- The same as a test.

-- whether two truth values are equal
abbrev pub same : Bool → Bool → Bool
same x y = if x then y else not y

-- a test, or, where it is reified, whether z is its truth
abbrev pub reify : Bool → Bool → Bool → Bool
reify false z p = p
reify true z p = same z p

-- members that differ
abbrev pub members_differ : AllDifferent → List ℤ → Bool → List Bool → Bool
members_differ all_different.Plain xs z cs = all_differ xs
members_differ all_different.Reified xs z cs = same z (all_differ xs)
members_differ all_different.Conditional xs z cs = differ_where xs cs

-- an order of two lists
abbrev pub lists_in_order : Order → List Bool → List Bool → List ℤ → List ℤ → Bool → Bool
lists_in_order o xs ys is js z =
    reify o.reified z
    (in_order o.strict (if o.of_booleans then map as_number xs else is)
    (if o.of_booleans then map as_number ys else js))

-- whether the statement holds
unfoldable pub holds : List ℤ → What → Bool
holds a (BoolToInt x i) = int_eq (number_of a i) (as_number (truth_of a x))
holds a (BoolEq x y) = same (truth_of a x) (truth_of a y)
holds a (BoolOp name op x y z) = same (truth_of a z) (combine op (truth_of a x ∷ truth_of a y ∷ []))
holds a (BoolArray name op xs) = combine op (truths_of a xs)
holds a (BoolArrayReified name op xs z) = same (truth_of a z) (combine op (truths_of a xs))
holds a (Compare name rel i j) = relates rel (number_of a i) (number_of a j)
holds a (CompareReified name rel i j z) = same (truth_of a z) (relates rel (number_of a i) (number_of a j))
holds a (BoolSum name rel xs i) = relates rel (pos (count_true (truths_of a xs))) (number_of a i)
holds a (BoolLinear name rel cs xs i) = relates rel (weight_of_true cs (truths_of a xs)) (number_of a i)
holds a (IntSum name rel is i) = relates rel (total (numbers_of a is)) (number_of a i)
holds a (IntLinear name rel cs is i) = relates rel (linear_sum cs (numbers_of a is)) (number_of a i)
holds a (IntOp name o i j k) = gives o (number_of a i) (number_of a j) (number_of a k)
holds a (Absolute i j) = int_eq (number_of a j) (pos (unsigned_abs (number_of a i)))
holds a (IntArray name o is i) = is_aggregate o (numbers_of a is) (number_of a i)
holds a (IntAllDifferent name d is z xs) =
    members_differ d (numbers_of a is) (truth_or_true a z) (truths_of a (terms_or_none xs))
holds a (Lexicographic name o xs ys is js z) =
    lists_in_order o (truths_of a (terms_or_none xs)) (truths_of a (terms_or_none ys)) (numbers_of a (terms_or_none is))
    (numbers_of a (terms_or_none js)) (truth_or_true a z)
