-- The first fault of a list of items.
use Rattle.std.specs.Prelude.{ℕ, ◌==◌, ℤ, pos, int_lt, Bool, true, false, not, ◌&&◌, ◌||◌, List, []}
use Rattle.std.specs.Prelude.{◌∷◌, length, slice_get, Option, Some, None, is_some, if◌then◌else◌}
use Rattle.bumblebee_reader.specs.declared.syntax.Term.{Term}
use Rattle.bumblebee_reader.specs.declared.syntax.Term.TheVariants as term
use Rattle.bumblebee_reader.specs.declared.syntax.Arg.{Arg}
use Rattle.bumblebee_reader.specs.declared.syntax.Arg.TheVariants as arg
use Rattle.bumblebee_reader.specs.declared.syntax.Item.{Item}
use Rattle.bumblebee_reader.specs.declared.syntax.Item.TheVariants as item
use Rattle.bumblebee_reader.specs.declared.syntax.GoalKind.{GoalKind}
use Rattle.bumblebee_reader.specs.declared.syntax.GoalKind.TheVariants as goal_kind
use Rattle.model_meaning.specs.declared.wanted.Wanted.{Wanted}
use Rattle.model_meaning.specs.declared.wanted.Wanted.TheVariants as wanted
use Rattle.model_meaning.specs.declared.statement.Arithmetic.TheVariants as arithmetic
use Rattle.model_meaning.specs.declared.statement.Aggregate.TheVariants as aggregate
use Rattle.model_meaning.specs.declared.statement.Statement.{Statement}
use Rattle.model_meaning.specs.declared.statement.Statement.TheVariants as statement
use Rattle.model_meaning.specs.declared.model.Decl.{Decl}
use Rattle.typed_model.specs.declared.fault.TypeFault.{TypeFault}
use Rattle.typed_model.specs.declared.fault.TypeFault.TheVariants.{NoGoal, Unknown, Undeclared, Kind, Twice, Lengths}
use Rattle.typed_model.specs.declared.fault.TypeFault.TheVariants.{EmptyDomain, DivDomain}
use Rattle.model_meaning.specs.Names.{statement_of}
use Rattle.model_meaning.specs.Signatures.{signature}
use Rattle.model_meaning.specs.Places.{place_of, low_of, is_constant}
use Rattle.typed_model.specs.Scope.{kind_of, is_bool, is_int, is_unknown, numeral, term_unknown, terms_unknown}
use Rattle.typed_model.specs.Scope.{is_truth, is_number, is_numeral, all_truths, all_numbers, all_numerals}

-- Undeclared: a name in the arguments isn't declared.

-- a plain name in a declaring place isn't looked up
abbrev pub declares : Wanted → Arg → Bool
declares wanted.NewName (arg.One (term.Plain name)) = true
declares wanted.NewInteger (arg.One (term.Plain name)) = true
declares w a = false

abbrev pub arg_unknown : List Decl → Arg → Bool
arg_unknown ds (arg.One t) = term_unknown ds t
arg_unknown ds (arg.Many ts) = terms_unknown ds ts

-- an argument past those of the signature is in no declaring place
abbrev pub has_undeclared : List Decl → List Wanted → List Arg → Bool
has_undeclared ds ws [] = false
has_undeclared ds [] (a ∷ rest) = arg_unknown ds a || has_undeclared ds [] rest
has_undeclared ds (w ∷ ws) (a ∷ rest) = (not (declares w a) && arg_unknown ds a) || has_undeclared ds ws rest

-- what a call's arguments are to be: those of its statement's signature, but that a list of numerals may stand in place
-- of the two numerals of `new_int`
abbrev pub wanted_of : Statement → Option Arg → List Wanted
wanted_of statement.NewInt (Some (arg.Many ts)) = wanted.NewName ∷ wanted.Numerals ∷ []
wanted_of s a = signature s

-- Kind: the number of arguments, or the kind of one, is another than what is wanted.

abbrev pub one_fits : List Decl → Wanted → Term → Bool
one_fits ds wanted.Truth t = is_truth ds t
one_fits ds wanted.Number t = is_number ds t
one_fits ds wanted.Numeral t = is_numeral t
one_fits ds wanted.NewName (term.Plain name) = not (is_constant name)
one_fits ds wanted.NewInteger (term.Plain name) = not (is_constant name) && not (is_bool (kind_of name ds))
one_fits ds w t = false

abbrev pub many_fit : List Decl → Wanted → List Term → Bool
many_fit ds wanted.Truths ts = all_truths ds ts
many_fit ds wanted.Numbers ts = all_numbers ds ts
many_fit ds wanted.Numerals ts = all_numerals ts
many_fit ds w ts = false

abbrev pub arg_fits : List Decl → Wanted → Arg → Bool
arg_fits ds w (arg.One t) = one_fits ds w t
arg_fits ds w (arg.Many ts) = many_fit ds w ts

abbrev pub fit : List Decl → List Wanted → List Arg → Bool
fit ds [] [] = true
fit ds [] (a ∷ rest) = false
fit ds (w ∷ ws) [] = false
fit ds (w ∷ ws) (a ∷ rest) = arg_fits ds w a && fit ds ws rest

-- Twice: a name is declared anew.

abbrev pub is_declaration : Statement → Bool
is_declaration statement.NewBool = true
is_declaration statement.NewInt = true
is_declaration s = false

abbrev pub names_declared : List Decl → Option Arg → Bool
names_declared ds (Some (arg.One (term.Plain name))) = is_some (place_of name ds)
names_declared ds a = false

abbrev pub declares_twice : List Decl → Statement → List Arg → Bool
declares_twice ds s args = is_declaration s && names_declared ds (slice_get args 0)

-- Lengths: two lists differ in length, or a list has no greatest or least member since it is empty.

abbrev pub lists_differ : Option Arg → Option Arg → Bool
lists_differ (Some (arg.Many xs)) (Some (arg.Many ys)) = not (length xs == length ys)
lists_differ a b = false

abbrev pub wants_member : Statement → Bool
wants_member (statement.IntArray aggregate.Max) = true
wants_member (statement.IntArray aggregate.Min) = true
wants_member s = false

abbrev pub is_empty : Option Arg → Bool
is_empty (Some (arg.Many xs)) = length xs == 0
is_empty a = false

abbrev pub has_wrong_lengths : Statement → List Arg → Bool
has_wrong_lengths s args = lists_differ (slice_get args 0) (slice_get args 1)
    || (wants_member s && is_empty (slice_get args 0))

-- EmptyDomain: the least value of a new integer is above its greatest, or none is listed.

abbrev pub numeral_in : Option Arg → ℤ
numeral_in (Some (arg.One t)) = numeral t
numeral_in a = pos 0

abbrev pub declares_integer : Statement → Bool
declares_integer statement.NewInt = true
declares_integer s = false

abbrev pub lacks_value : Option Arg → Option Arg → Bool
lacks_value (Some (arg.Many ts)) b = length ts == 0
lacks_value a b = int_lt (numeral_in b) (numeral_in a)

abbrev pub empty_domain : Statement → List Arg → Bool
empty_domain s args = declares_integer s && lacks_value (slice_get args 1) (slice_get args 2)

-- DivDomain: the dividend may be below 0, or the divisor below 1.

abbrev pub divides : Statement → Bool
divides (statement.IntOp arithmetic.Div) = true
divides (statement.IntOp arithmetic.Mod) = true
divides s = false

abbrev pub least_in : List Decl → Option Arg → ℤ
least_in ds (Some (arg.One (term.Plain name))) = low_of (kind_of name ds)
least_in ds a = numeral_in a

abbrev pub division_domain : List Decl → Statement → List Arg → Bool
division_domain ds s args = divides s
    && (int_lt (least_in ds (slice_get args 0)) (pos 0) || int_lt (least_in ds (slice_get args 1)) (pos 1))

-- The faults of one item, in their order.

-- a declaration or statement, item n, among the names declared so far
unfoldable pub statement_fault : ℕ → List Decl → Statement → List Arg → Option TypeFault
statement_fault n ds s args =
    if has_undeclared ds (wanted_of s (slice_get args 1)) args then Some (Undeclared n) else
    (if not (fit ds (wanted_of s (slice_get args 1)) args) then Some (Kind n) else
    (if declares_twice ds s args then Some (Twice n) else
    (if has_wrong_lengths s args then Some (Lengths n) else
    (if empty_domain s args then Some (EmptyDomain n) else
    (if division_domain ds s args then Some (DivDomain n) else None)))))

-- an objective is an integer name where one is sought, and is left out where any solution serves; a second one may be
-- left out
abbrev pub objective_unknown : List Decl → Option (List ℕ) → Bool
objective_unknown ds None = false
objective_unknown ds (Some name) = is_unknown ds name

abbrev pub second_fits : List Decl → Option (List ℕ) → Bool
second_fits ds None = true
second_fits ds (Some name) = is_int (kind_of name ds)

abbrev pub objectives_fit : List Decl → GoalKind → Option (List ℕ) → Option (List ℕ) → Bool
objectives_fit ds goal_kind.Satisfy None None = true
objectives_fit ds goal_kind.Satisfy None (Some second) = false
objectives_fit ds goal_kind.Satisfy (Some name) second = false
objectives_fit ds goal_kind.Minimize None second = false
objectives_fit ds goal_kind.Minimize (Some name) second = is_int (kind_of name ds) && second_fits ds second
objectives_fit ds goal_kind.Maximize None second = false
objectives_fit ds goal_kind.Maximize (Some name) second = is_int (kind_of name ds) && second_fits ds second

abbrev pub goal_fault : ℕ → List Decl → GoalKind → Option (List ℕ) → Option (List ℕ) → Option TypeFault
goal_fault n ds k objective second =
    if objective_unknown ds objective || objective_unknown ds second then Some (Undeclared n) else
    (if not (objectives_fit ds k objective second) then Some (Kind n) else None)

abbrev pub call_fault : ℕ → List Decl → Option Statement → List Arg → Option TypeFault
call_fault n ds None args = Some (Unknown n)
call_fault n ds (Some s) args = statement_fault n ds s args

-- item n, where after_goal says whether a goal stands before it
unfoldable pub item_fault : ℕ → Bool → List Decl → Item → Option TypeFault
item_fault n true ds i = Some (NoGoal n)
item_fault n false ds (item.Call name args) = call_fault n ds (statement_of name) args
item_fault n false ds (item.Goal k objective second) = goal_fault n ds k objective second
