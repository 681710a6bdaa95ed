-- A model has no more declarations, statements and members than its items have calls and terms.
use Rattle.std.proofs.Common.{◌≡◌, ◌≤◌, ℕ, ◌+◌, Bool, true, false, List, [], ◌∷◌, ◌++◌, length, Option, Some, None, is_some, refl, arith}
use Rattle.std.specs.Prelude.{slice_get, IfSome, if◌then◌else◌}
use Rattle.std.proofs.lemmas.List.{length-append, length-map}
use Rattle.bumblebee_reader.specs.declared.syntax.Arg.{Arg}
use Rattle.bumblebee_reader.specs.declared.syntax.Arg.TheVariants as arg
use Rattle.bumblebee_reader.specs.declared.syntax.Item.{Item}
use Rattle.bumblebee_reader.specs.declared.syntax.Item.TheVariants as item
use Rattle.model_meaning.specs.declared.statement.Statement.{Statement}
use Rattle.model_meaning.specs.declared.statement.Statement.TheVariants as statement
use Rattle.model_meaning.specs.declared.wanted.Wanted.{Wanted}
use Rattle.model_meaning.specs.declared.wanted.Wanted.TheVariants as wanted
use Rattle.model_meaning.specs.declared.what.What.{What}
use Rattle.model_meaning.specs.declared.model.Kind.{Kind}
use Rattle.model_meaning.specs.declared.model.Decl.{Decl}
use Rattle.model_meaning.specs.declared.model.Stmt.{Stmt}
use Rattle.model_meaning.specs.Names.{statement_of}
use Rattle.model_meaning.specs.Places.{place_of}
use Rattle.typed_model.specs.Scope.{truth, number, numeral}
use Rattle.model_meaning.specs.Signatures.{signature}
use Rattle.typed_model.specs.Items.{declare, declare_by, declare_if, declarations_of, what_of, terms_in, state, state_if, statements_of, decls_from, stmts_from}
use Rattle.model_meaning.specs.Sizes.{argument_members, arguments_members, what_members, members_of}
use Rattle.typed_model.specs.Sizes.{arg_terms, args_terms, item_terms, terms_of}
use Rattle.typed_model.specs.Laws.{SizeLaw}
use Rattle.typed_model.proofs.ArgumentLaws.{argument_in, arguments_in, Reads, reads}

-- Declarations.

name-one : (b : Bool) (d : Decl) → length (if b then [] else d ∷ []) ≤ 1
name-one true d = omega arith
name-one false d = omega arith

as-one : (n : ℕ) (ds : List Decl) (o : Option (List ℕ)) (k : Kind) → length (declare n ds o k) ≤ 1
as-one n ds None k = omega arith
as-one n ds (Some name) k = name-one (is_some (place_of name ds)) _

by-one : (n : ℕ) (ds : List Decl) (s : Statement) (args : List Arg) → length (declare_by n ds s args) ≤ 1
unfolding declare_by
by-one n ds statement.NewBool args = as-one n ds _ _
by-one n ds statement.NewInt args = as-one n ds _ _
by-one n ds statement.BoolToInt args = as-one n ds _ _
by-one n ds s args = omega arith

if-one : (n : ℕ) (ds : List Decl) (o : Option Statement) (args : List Arg) → length (declare_if n ds o args) ≤ 1
if-one n ds None args = omega arith
if-one n ds (Some s) args = by-one n ds s args

declarations_of-one : (n : ℕ) (ds : List Decl) (i : Item) → length (declarations_of n ds i) ≤ 1
declarations_of-one n ds (item.Call name args) = if-one n ds (statement_of name) args
declarations_of-one n ds (item.Goal k objective second) = omega arith

decls-size : (n : ℕ) (ds : List Decl) (items : List Item) → length (decls_from n ds items) ≤ length ds + length items
unfolding decls_from
decls-size n ds [] = omega arith
decls-size n ds (i ∷ items) =
    omega (arith, decls-size (n + 1) (ds ++ declarations_of n ds i) items, length-append ds (declarations_of n ds i), declarations_of-one n ds i)

-- Statements.

state-one : (n : ℕ) (w : Option What) → length (state n w) ≤ 1
state-one n None = omega arith
state-one n (Some w) = omega arith

state_if-one : (n : ℕ) (ds : List Decl) (name : List ℕ) (o : Option Statement) (args : List Arg) → length (state_if n ds name o args) ≤ 1
state_if-one n ds name None args = omega arith
state_if-one n ds name (Some s) args = state-one n (what_of ds name s args)

statements_of-one : (n : ℕ) (ds : List Decl) (i : Item) → length (statements_of n ds i) ≤ 1
statements_of-one n ds (item.Call name args) = state_if-one n ds name (statement_of name) args
statements_of-one n ds (item.Goal k objective second) = omega arith

stmts-size : (n : ℕ) (ds : List Decl) (items : List Item) → length (stmts_from n ds items) ≤ length items
unfolding stmts_from
stmts-size n ds [] = omega arith
stmts-size n ds (i ∷ items) =
    let es = ds ++ declarations_of n ds i in
    omega (arith, stmts-size (n + 1) es items, length-append (statements_of n es i) (stmts_from (n + 1) es items), statements_of-one n es i)

-- Members of lists.

own-terms : (a : Arg) → length (terms_in (Some a)) ≤ arg_terms a
own-terms (arg.One t) = omega arith
own-terms (arg.Many ts) = omega arith

argument-size : (ds : List Decl) (w : Wanted) (a : Option Arg) → argument_members (argument_in ds w a) ≤ length (terms_in a)
argument-size ds wanted.Truth a = omega arith
argument-size ds wanted.Number a = omega arith
argument-size ds wanted.Numeral a = omega arith
argument-size ds wanted.Truths a = omega (arith, length-map (terms_in a) (truth ds))
argument-size ds wanted.Numbers a = omega (arith, length-map (terms_in a) (number ds))
argument-size ds wanted.Numerals a = omega (arith, length-map (terms_in a) numeral)
argument-size ds wanted.NewName a = omega arith
argument-size ds wanted.NewInteger a = omega arith

arguments-size : (ds : List Decl) (ws : List Wanted) (args : List Arg) → arguments_members (arguments_in ds ws (slice_get args)) ≤ args_terms args
arguments-size ds [] args = omega arith
arguments-size ds (w ∷ ws) [] = omega (arith, argument-size ds w None, arguments-size ds ws [])
arguments-size ds (w ∷ ws) (a ∷ rest) = omega (arith, argument-size ds w (Some a), own-terms a, arguments-size ds ws rest)

pub read-size : (ds : List Decl) (args : List Arg) (s : Statement) (w : What) → Reads ds args s w → what_members w ≤ args_terms args
read-size ds args s w r = rw r.arguments (arguments-size ds (signature s) args)

state-members : (n : ℕ) (ds : List Decl) (args : List Arg) (s : Statement) (w : Option What) → IfSome w (Reads ds args s) → members_of (state n w) ≤ args_terms args
state-members n ds args s None h = omega arith
state-members n ds args s (Some w) h = omega (arith, read-size ds args s w h)

call-members : (n : ℕ) (ds : List Decl) (args : List Arg) (name : List ℕ) (o : Option Statement) → statement_of name ≡ o → members_of (state_if n ds name o args) ≤ args_terms args
call-members n ds args name None m = omega arith
call-members n ds args name (Some s) m = state-members n ds args s (what_of ds name s args) (reads ds args name s m)

statements_of-members : (n : ℕ) (ds : List Decl) (i : Item) → members_of (statements_of n ds i) ≤ item_terms i
statements_of-members n ds (item.Call name args) = call-members n ds args name (statement_of name) refl
statements_of-members n ds (item.Goal k objective second) = omega arith

members-append : (ss ts : List Stmt) → members_of (ss ++ ts) ≡ members_of ss + members_of ts
members-append [] ts = omega arith
members-append (s ∷ ss) ts = omega (arith, members-append ss ts)

members-size : (n : ℕ) (ds : List Decl) (items : List Item) → members_of (stmts_from n ds items) ≤ terms_of items
unfolding stmts_from
members-size n ds [] = omega arith
members-size n ds (i ∷ items) =
    let es = ds ++ declarations_of n ds i in
    omega (arith, members-size (n + 1) es items, members-append (statements_of n es i) (stmts_from (n + 1) es items), statements_of-members n es i)

pub size-model_of : SizeLaw
size-model_of items = (omega (arith, decls-size 1 [] items), stmts-size 1 [] items, members-size 1 [] items)
