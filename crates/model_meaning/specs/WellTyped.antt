-- When a model is well typed, as a fact about the model alone.
use Rattle.std.specs.Prelude.{◌≡◌, ℕ, ◌+◌, ◌<◌, ℤ, pos, ◌≤ℤ◌, ◌≤◌, List, [], ◌∷◌}
use Rattle.std.specs.Prelude.{length, slice_get, Option, Some, None, IfSome, IsSomeAnd, IsFalse}
use Rattle.model_meaning.specs.declared.what.BoolTerm.{BoolTerm}
use Rattle.model_meaning.specs.declared.what.BoolTerm.TheVariants as bool_term
use Rattle.model_meaning.specs.declared.what.IntTerm.{IntTerm}
use Rattle.model_meaning.specs.declared.what.IntTerm.TheVariants as int_term
use Rattle.model_meaning.specs.declared.what.What.{What}
use Rattle.model_meaning.specs.declared.what.What.TheVariants.{BoolToInt}
use Rattle.model_meaning.specs.declared.wanted.Wanted.{Wanted}
use Rattle.model_meaning.specs.declared.wanted.Wanted.TheVariants as wanted
use Rattle.model_meaning.specs.declared.statement.Arithmetic.TheVariants as arithmetic
use Rattle.model_meaning.specs.declared.statement.Aggregate.{Aggregate}
use Rattle.model_meaning.specs.declared.statement.Aggregate.TheVariants as aggregate
use Rattle.model_meaning.specs.declared.statement.Statement.{Statement}
use Rattle.model_meaning.specs.declared.statement.Statement.TheVariants as statement
use Rattle.model_meaning.specs.declared.model.Kind.{Kind}
use Rattle.model_meaning.specs.declared.model.Kind.TheVariants as kind
use Rattle.model_meaning.specs.declared.model.Decl.{Decl}
use Rattle.model_meaning.specs.declared.model.Stmt.{Stmt}
use Rattle.model_meaning.specs.declared.model.Goal.{Goal}
use Rattle.model_meaning.specs.declared.model.Goal.TheVariants as goal
use Rattle.model_meaning.specs.declared.model.Model.{Model}
use Rattle.model_meaning.specs.Names.{statement_of}
use Rattle.model_meaning.specs.Signatures.{signature}
use Rattle.model_meaning.specs.Arguments.{Argument, Truth, Number, Truths, Numbers, Numerals, arguments_of}
use Rattle.model_meaning.specs.Arguments.{statement_in, own_name}
use Rattle.value_lists.specs.ValueLists.{Ascends}
use Rattle.model_meaning.specs.Places.{is_constant, low_of, place_of}

-- an integer, whatever its domain
abbrev pub IsInt : Kind → Type 0
IsInt kind.Bool = ⊥
IsInt (kind.Range low high) = Unit {0}
IsInt (kind.Listed values) = Unit {0}

-- a place is that of a Boolean, or of an integer, that an item before item n declares
abbrev pub IsTruthAt : List Decl → ℕ → ℕ → Type 0
IsTruthAt ds n place = IsSomeAnd (slice_get ds place) (λ d. (d.number < n) × (d.kind ≡ kind.Bool))

abbrev pub IsNumberAt : List Decl → ℕ → ℕ → Type 0
IsNumberAt ds n place = IsSomeAnd (slice_get ds place) (λ d. (d.number < n) × IsInt d.kind)

-- the place of a term, where it has one, is such a place
abbrev pub TruthFits : List Decl → ℕ → BoolTerm → Type 0
TruthFits ds n (bool_term.Const b) = Unit {0}
TruthFits ds n (bool_term.Of place positive) = IsTruthAt ds n place

abbrev pub NumberFits : List Decl → ℕ → IntTerm → Type 0
NumberFits ds n (int_term.Number z) = Unit {0}
NumberFits ds n (int_term.Of place) = IsNumberAt ds n place

abbrev pub TruthsFit : List Decl → ℕ → List BoolTerm → Type 0
TruthsFit ds n [] = Unit {0}
TruthsFit ds n (x ∷ xs) = TruthFits ds n x × TruthsFit ds n xs

abbrev pub NumbersFit : List Decl → ℕ → List IntTerm → Type 0
NumbersFit ds n [] = Unit {0}
NumbersFit ds n (i ∷ is) = NumberFits ds n i × NumbersFit ds n is

-- the least value of a term is at least m
abbrev pub IsAtLeast : List Decl → ℤ → IntTerm → Type 0
IsAtLeast ds m (int_term.Number z) = m ≤ℤ z
IsAtLeast ds m (int_term.Of place) = IsSomeAnd (slice_get ds place) (λ d. m ≤ℤ low_of (Some d.kind))

-- an argument is what the signature wants there. What a `bool2int` declares is an integer of item n itself or an
-- earlier one
abbrev pub ArgumentFits : List Decl → ℕ → Wanted → Argument → Type 0
ArgumentFits ds n wanted.Truth (Truth x) = TruthFits ds n x
ArgumentFits ds n wanted.Number (Number i) = NumberFits ds n i
ArgumentFits ds n wanted.NewInteger (Number (int_term.Of place)) = IsNumberAt ds (n + 1) place
ArgumentFits ds n wanted.Truths (Truths xs) = TruthsFit ds n xs
ArgumentFits ds n wanted.Numbers (Numbers is) = NumbersFit ds n is
ArgumentFits ds n wanted.Numerals (Numerals cs) = Unit {0}
ArgumentFits ds n w a = ⊥

abbrev pub ArgumentsFit : List Decl → ℕ → List Wanted → List Argument → Type 0
ArgumentsFit ds n [] [] = Unit {0}
ArgumentsFit ds n [] (a ∷ rest) = ⊥
ArgumentsFit ds n (w ∷ ws) [] = ⊥
ArgumentsFit ds n (w ∷ ws) (a ∷ rest) = ArgumentFits ds n w a × ArgumentsFit ds n ws rest

-- the length of an argument that is a list
abbrev pub list_length : Argument → Option ℕ
list_length (Truth x) = None
list_length (Number i) = None
list_length (Truths xs) = Some (length xs)
list_length (Numbers is) = Some (length is)
list_length (Numerals cs) = Some (length cs)

-- where the first two arguments are lists, they have one length
abbrev pub LengthsFit : List Argument → Type 0
LengthsFit [] = Unit {0}
LengthsFit (a ∷ []) = Unit {0}
LengthsFit (a ∷ b ∷ rest) = IfSome (list_length a) (λ m. IfSome (list_length b) (λ n. m ≡ n))

-- a greatest or least member wants a member
abbrev pub HasMember : Aggregate → List Argument → Type 0
HasMember aggregate.Plus args = Unit {0}
HasMember aggregate.Max (Numbers is ∷ rest) = 0 < length is
HasMember aggregate.Min (Numbers is ∷ rest) = 0 < length is
HasMember o args = ⊥

-- a division has a dividend of at least 0 and a divisor of at least 1
abbrev pub IsDivision : List Decl → List Argument → Type 0
IsDivision ds (Number i ∷ Number j ∷ rest) = IsAtLeast ds (pos 0) i × IsAtLeast ds (pos 1) j
IsDivision ds args = ⊥

abbrev pub ValuesFit : List Decl → Statement → List Argument → Type 0
ValuesFit ds (statement.IntArray o) args = HasMember o args
ValuesFit ds (statement.IntOp arithmetic.Div) args = IsDivision ds args
ValuesFit ds (statement.IntOp arithmetic.Mod) args = IsDivision ds args
ValuesFit ds s args = Unit {0}

-- a statement, item n: its name is its own, and its arguments are those of the statement's signature, with lengths and
-- values that the statement takes
pub record WhatFits (ds : List Decl) (n : ℕ) (w : What) : Type 0 where
  pub name : IfSome (own_name w) (λ name. statement_of name ≡ Some (statement_in w))
  pub arguments : ArgumentsFit ds n (signature (statement_in w)) (arguments_of w)
  pub lengths : LengthsFit (arguments_of w)
  pub values : ValuesFit ds (statement_in w) (arguments_of w)

-- statements whose numbers ascend from at least n, each of which fits
abbrev pub StmtsFit : List Decl → ℕ → List Stmt → Type 0
StmtsFit ds n [] = Unit {0}
StmtsFit ds n (s ∷ ss) = (n ≤ s.number) × (WhatFits ds s.number s.what × StmtsFit ds (s.number + 1) ss)

-- no declaration has this name
abbrev pub IsFree : List ℕ → List Decl → Type 0
IsFree name ds = place_of name ds ≡ None

-- declarations whose numbers ascend from at least n, whose names differ and are neither `true` nor `false`,
-- and whose domains aren't empty
abbrev pub KindFits : Kind → Type 0
KindFits kind.Bool = Unit {0}
KindFits (kind.Range low high) = low ≤ℤ high
KindFits (kind.Listed values) = (0 < length values) × Ascends values

abbrev pub DeclsFit : ℕ → List Decl → Type 0
DeclsFit n [] = Unit {0}
DeclsFit n (d ∷ ds) = (n ≤ d.number)
    × (IsFalse (is_constant d.name) × (IsFree d.name ds × (KindFits d.kind × DeclsFit (d.number + 1) ds)))

-- where a declaration has the number of a statement, the statement is a `bool2int` of that declaration,
-- and the domain is 0 to 1
abbrev pub DeclaresPlace : List Decl → Decl → What → Type 0
DeclaresPlace ds d (BoolToInt x (int_term.Of place)) = (slice_get ds place ≡ Some d)
    × (d.kind ≡ kind.Range (pos 0) (pos 1))
DeclaresPlace ds d w = ⊥

abbrev pub SharesFit : List Decl → List Stmt → Type 0
SharesFit ds ss = (p q : ℕ)
    → IfSome (slice_get ds p) (λ d. IfSome (slice_get ss q) (λ s. d.number ≡ s.number
    → DeclaresPlace ds d s.what))

-- an objective is an integer, and so is a second one, where there is one
abbrev pub ObjectiveFits : List Decl → ℕ → Type 0
ObjectiveFits ds place = IsSomeAnd (slice_get ds place) (λ d. IsInt d.kind)

abbrev pub SecondFits : List Decl → Option ℕ → Type 0
SecondFits ds None = Unit {0}
SecondFits ds (Some place) = ObjectiveFits ds place

abbrev pub GoalFits : List Decl → Goal → Type 0
GoalFits ds goal.Satisfy = Unit {0}
GoalFits ds (goal.Minimize place second) = ObjectiveFits ds place × SecondFits ds second
GoalFits ds (goal.Maximize place second) = ObjectiveFits ds place × SecondFits ds second

-- a model without fault
pub record WellTyped (model : Model) : Type 0 where
  pub decls : DeclsFit 1 model.decls
  pub stmts : StmtsFit model.decls 1 model.stmts
  pub shares : SharesFit model.decls model.stmts
  pub goal : GoalFits model.decls model.goal
