-- The model of a list of items.
use Rattle.std.specs.Prelude.{◌≡◌, ◌⊎◌, ℕ, ◌+◌, ℤ, pos, false, List, [], ◌∷◌, ◌++◌, map}
use Rattle.std.specs.Prelude.{slice_get, Option, Some, None, is_some, if◌then◌else◌}
use Rattle.std.specs.Option.{unwrap_or}
use Rattle.bumblebee_reader.specs.declared.syntax.Term.{Term}
use Rattle.bumblebee_reader.specs.declared.syntax.Term.TheVariants as term
use Rattle.bumblebee_reader.specs.declared.syntax.Arg.{Arg}
use Rattle.bumblebee_reader.specs.declared.syntax.Arg.TheVariants as arg
use Rattle.bumblebee_reader.specs.declared.syntax.Item.{Item}
use Rattle.bumblebee_reader.specs.declared.syntax.Item.TheVariants as item
use Rattle.bumblebee_reader.specs.declared.syntax.GoalKind.{GoalKind}
use Rattle.bumblebee_reader.specs.declared.syntax.GoalKind.TheVariants as goal_kind
use Rattle.model_meaning.specs.declared.what.BoolTerm.{BoolTerm}
use Rattle.model_meaning.specs.declared.what.BoolTerm.TheVariants as bool_term
use Rattle.model_meaning.specs.declared.what.IntTerm.{IntTerm}
use Rattle.model_meaning.specs.declared.what.IntTerm.TheVariants as int_term
use Rattle.model_meaning.specs.declared.what.What.{What}
use Rattle.model_meaning.specs.declared.what.What.TheVariants.{
  BoolToInt,
  BoolEq,
  BoolOp,
  BoolArray,
  BoolArrayReified,
  Compare,
  CompareReified,
  BoolSum,
  BoolLinear,
  IntSum,
  IntLinear,
  IntOp,
  Absolute,
  IntArray,
  IntAllDifferent,
  Lexicographic,
}
use Rattle.model_meaning.specs.declared.statement.AllDifferent.{AllDifferent}
use Rattle.model_meaning.specs.declared.statement.AllDifferent.TheVariants as all_different
use Rattle.model_meaning.specs.declared.statement.Order.{Order}
use Rattle.model_meaning.specs.declared.statement.Statement.{Statement}
use Rattle.model_meaning.specs.declared.statement.Statement.TheVariants as statement
use Rattle.model_meaning.specs.declared.model.Kind.{Kind}
use Rattle.model_meaning.specs.declared.model.Kind.TheVariants as kind
use Rattle.model_meaning.specs.declared.model.Decl.{Decl}
use Rattle.model_meaning.specs.declared.model.Stmt.{Stmt}
use Rattle.model_meaning.specs.declared.model.Goal.{Goal}
use Rattle.model_meaning.specs.declared.model.Goal.TheVariants as goal
use Rattle.model_meaning.specs.declared.model.Model.{Model}
use Rattle.typed_model.specs.declared.fault.TypeFault.{TypeFault}
use Rattle.typed_model.specs.declared.fault.TypeFault.TheVariants.{NoGoal, Memory}
use Rattle.value_lists.specs.ValueLists.{different}
use Rattle.model_meaning.specs.Names.{statement_of, first_of}
use Rattle.model_meaning.specs.Places.{place_of}
use Rattle.typed_model.specs.Scope.{place_or_zero, truth, number, numeral}
use Rattle.typed_model.specs.Faults.{numeral_in, item_fault}

-- Arguments of a wanted kind. Where an argument is of another, the answer is a constant or empty, which
-- no item without a fault gives.

abbrev pub truth_in : List Decl → Option Arg → BoolTerm
truth_in ds (Some (arg.One t)) = truth ds t
truth_in ds a = bool_term.Const false

abbrev pub number_in : List Decl → Option Arg → IntTerm
number_in ds (Some (arg.One t)) = number ds t
number_in ds a = int_term.Number (pos 0)

abbrev pub terms_in : Option Arg → List Term
terms_in (Some (arg.Many ts)) = ts
terms_in a = []

abbrev pub truths_in : List Decl → Option Arg → List BoolTerm
truths_in ds a = map (truth ds) (terms_in a)

abbrev pub numbers_in : List Decl → Option Arg → List IntTerm
numbers_in ds a = map (number ds) (terms_in a)

abbrev pub numerals_in : Option Arg → List ℤ
numerals_in a = map numeral (terms_in a)

abbrev pub name_in : Option Arg → Option (List ℕ)
name_in (Some (arg.One (term.Plain name))) = Some name
name_in a = None

-- What an item declares, among the declarations before it.

-- the declaration of a name that isn't declared yet
abbrev pub declare_name : ℕ → List Decl → List ℕ → Kind → List Decl
declare_name n ds name k = if is_some (place_of name ds) then [] else record { number = n; name = name; kind = k }
    ∷ []

abbrev pub declare : ℕ → List Decl → Option (List ℕ) → Kind → List Decl
declare n ds None k = []
declare n ds (Some name) k = declare_name n ds name k

-- the domain that `new_int` declares: the listed values, or those from a numeral to another
abbrev pub domain_in : Option Arg → Option Arg → Kind
domain_in (Some (arg.Many ts)) b = kind.Listed (different (map numeral ts))
domain_in a b = kind.Range (numeral_in a) (numeral_in b)

unfoldable pub declare_by : ℕ → List Decl → Statement → List Arg → List Decl
declare_by n ds statement.NewBool args = declare n ds (name_in (slice_get args 0)) kind.Bool
declare_by n ds statement.NewInt args =
    declare n ds (name_in (slice_get args 0)) (domain_in (slice_get args 1) (slice_get args 2))
declare_by n ds statement.BoolToInt args = declare n ds (name_in (slice_get args 1)) (kind.Range (pos 0) (pos 1))
declare_by n ds s args = []

abbrev pub declare_if : ℕ → List Decl → Option Statement → List Arg → List Decl
declare_if n ds None args = []
declare_if n ds (Some s) args = declare_by n ds s args

abbrev pub declarations_of : ℕ → List Decl → Item → List Decl
declarations_of n ds (item.Call name args) = declare_if n ds (statement_of name) args
declarations_of n ds (item.Goal k objective second) = []

-- What an item states, among the declarations that there are after it.

abbrev pub all_different_what : List Decl → List ℕ → AllDifferent → List Arg → What
all_different_what ds name all_different.Plain args =
    IntAllDifferent name all_different.Plain (numbers_in ds (slice_get args 0)) None None
all_different_what ds name all_different.Reified args =
    IntAllDifferent name all_different.Reified (numbers_in ds (slice_get args 0))
    (Some (truth_in ds (slice_get args 1))) None
all_different_what ds name all_different.Conditional args =
    IntAllDifferent name all_different.Conditional (numbers_in ds (slice_get args 0)) None
    (Some (truths_in ds (slice_get args 1)))

abbrev pub order_what : List Decl → List ℕ → Order → List Arg → What
order_what ds name o args =
    Lexicographic name o
    (if o.of_booleans then Some (truths_in ds (slice_get args 0)) else None)
    (if o.of_booleans then Some (truths_in ds (slice_get args 1)) else None)
    (if o.of_booleans then None else Some (numbers_in ds (slice_get args 0)))
    (if o.of_booleans then None else Some (numbers_in ds (slice_get args 1)))
    (if o.reified then Some (truth_in ds (slice_get args 2)) else None)

unfoldable pub what_of : List Decl → List ℕ → Statement → List Arg → Option What
what_of ds name statement.NewBool args = None
what_of ds name statement.NewInt args = None
what_of ds name statement.BoolToInt args =
    Some (BoolToInt (truth_in ds (slice_get args 0)) (number_in ds (slice_get args 1)))
what_of ds name statement.BoolEq args = Some (BoolEq (truth_in ds (slice_get args 0)) (truth_in ds (slice_get args 1)))
what_of ds name (statement.BoolOp op) args =
    Some (BoolOp name op (truth_in ds (slice_get args 0)) (truth_in ds (slice_get args 1))
    (truth_in ds (slice_get args 2)))
what_of ds name (statement.BoolArray op) args = Some (BoolArray name op (truths_in ds (slice_get args 0)))
what_of ds name (statement.BoolArrayReified op) args =
    Some (BoolArrayReified name op (truths_in ds (slice_get args 0)) (truth_in ds (slice_get args 1)))
what_of ds name (statement.Compare rel) args =
    Some (Compare name rel (number_in ds (slice_get args 0)) (number_in ds (slice_get args 1)))
what_of ds name (statement.CompareReified rel) args =
    Some (CompareReified name rel (number_in ds (slice_get args 0)) (number_in ds (slice_get args 1))
    (truth_in ds (slice_get args 2)))
what_of ds name (statement.BoolSum rel) args =
    Some (BoolSum name rel (truths_in ds (slice_get args 0)) (number_in ds (slice_get args 1)))
what_of ds name (statement.BoolLinear rel) args =
    Some (BoolLinear name rel (numerals_in (slice_get args 0)) (truths_in ds (slice_get args 1))
    (number_in ds (slice_get args 2)))
what_of ds name (statement.IntSum rel) args =
    Some (IntSum name rel (numbers_in ds (slice_get args 0)) (number_in ds (slice_get args 1)))
what_of ds name (statement.IntLinear rel) args =
    Some (IntLinear name rel (numerals_in (slice_get args 0)) (numbers_in ds (slice_get args 1))
    (number_in ds (slice_get args 2)))
what_of ds name (statement.IntOp o) args =
    Some (IntOp name o (number_in ds (slice_get args 0)) (number_in ds (slice_get args 1))
    (number_in ds (slice_get args 2)))
what_of ds name statement.Absolute args =
    Some (Absolute (number_in ds (slice_get args 0)) (number_in ds (slice_get args 1)))
what_of ds name (statement.IntArray o) args =
    Some (IntArray name o (numbers_in ds (slice_get args 0)) (number_in ds (slice_get args 1)))
what_of ds name (statement.IntAllDifferent d) args = Some (all_different_what ds name d args)
what_of ds name (statement.Lexicographic o) args = Some (order_what ds name o args)

-- the statement of item n
abbrev pub state : ℕ → Option What → List Stmt
state n None = []
state n (Some w) = record { number = n; what = w } ∷ []

abbrev pub state_if : ℕ → List Decl → List ℕ → Option Statement → List Arg → List Stmt
state_if n ds name None args = []
state_if n ds name (Some s) args = state n (what_of ds name s args)

abbrev pub statements_of : ℕ → List Decl → Item → List Stmt
statements_of n ds (item.Call name args) = state_if n ds name (statement_of name) args
statements_of n ds (item.Goal k objective second) = []

-- What a goal seeks.

abbrev pub objective_place : List Decl → Option (List ℕ) → ℕ
objective_place ds None = 0
objective_place ds (Some name) = place_or_zero name ds

-- the place of a second objective, where there is one
abbrev pub second_place : List Decl → Option (List ℕ) → Option ℕ
second_place ds None = None
second_place ds (Some name) = Some (place_or_zero name ds)

abbrev pub goal_of : List Decl → GoalKind → Option (List ℕ) → Option (List ℕ) → Goal
goal_of ds goal_kind.Satisfy objective second = goal.Satisfy
goal_of ds goal_kind.Minimize objective second = goal.Minimize (objective_place ds objective) (second_place ds second)
goal_of ds goal_kind.Maximize objective second = goal.Maximize (objective_place ds objective) (second_place ds second)

abbrev pub goal_after : Option Goal → List Decl → Item → Option Goal
goal_after g ds (item.Call name args) = g
goal_after g ds (item.Goal k objective second) = Some (goal_of ds k objective second)

-- From item n on, where ds are the declarations before it and g is the goal so far.

unfoldable pub decls_from : ℕ → List Decl → List Item → List Decl
decls_from n ds [] = ds
decls_from n ds (i ∷ items) = decls_from (n + 1) (ds ++ declarations_of n ds i) items

unfoldable pub stmts_from : ℕ → List Decl → List Item → List Stmt
stmts_from n ds [] = []
stmts_from n ds (i ∷ items) = statements_of n (ds ++ declarations_of n ds i) i
    ++ stmts_from (n + 1) (ds ++ declarations_of n ds i) items

unfoldable pub goal_from : ℕ → List Decl → Option Goal → List Item → Option Goal
goal_from n ds g [] = g
goal_from n ds g (i ∷ items) = goal_from (n + 1) (ds ++ declarations_of n ds i) (goal_after g ds i) items

-- the first fault of the items: that of the first item that has one, by the order of the faults; and where
-- no item has one, that there is no goal
unfoldable pub first_fault_from : ℕ → List Decl → Option Goal → List Item → Option TypeFault
first_fault_from n ds g [] = if is_some g then None else Some (NoGoal n)
first_fault_from n ds g (i ∷ items) =
    first_of (item_fault n (is_some g) ds i)
    (first_fault_from (n + 1) (ds ++ declarations_of n ds i) (goal_after g ds i) items)

-- the first fault of a list of items; they are numbered from 1
abbrev pub first_fault : List Item → Option TypeFault
first_fault items = first_fault_from 1 [] None items

-- the model of a list of items
abbrev pub model_of : List Item → Model
model_of items =
    record {
      decls = decls_from 1 [] items;
      stmts = stmts_from 1 [] items;
      goal = unwrap_or (goal_from 1 [] None items) goal.Satisfy;
    }

-- the answer to the items, where it isn't their model: memory was wanting, or it is the first fault
abbrev pub IsFaultOf : TypeFault → List Item → Type 0
IsFaultOf e items = (e ≡ Memory) ⊎ (first_fault items ≡ Some e)
