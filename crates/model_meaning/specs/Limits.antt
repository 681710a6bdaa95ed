-- Numbers in the limit of numerals, and lists in that of a text. A text's numerals are in the first, and its terms are
-- fewer than its bytes; so the numbers, domains and lists of a model that was read are in both.
use Rattle.std.specs.Prelude.{ℕ, ◌≤◌, ℤ, pos, unsigned_abs, List, [], ◌∷◌, slice_index_or}
use Rattle.model_meaning.specs.declared.what.IntTerm.{IntTerm}
use Rattle.model_meaning.specs.declared.what.IntTerm.TheVariants as int_term
use Rattle.model_meaning.specs.declared.what.What.{What}
use Rattle.model_meaning.specs.declared.model.Kind.{Kind}
use Rattle.model_meaning.specs.declared.model.Kind.TheVariants as kind
use Rattle.model_meaning.specs.declared.model.Decl.{Decl}
use Rattle.model_meaning.specs.declared.model.Stmt.{Stmt}
use Rattle.model_meaning.specs.declared.model.Model.{Model}
use Rattle.value_lists.specs.ValueLists.{Ascends}
use Rattle.model_meaning.specs.Terms.{value_at}
use Rattle.model_meaning.specs.Arguments.{Argument, Truth, Number, Truths, Numbers, Numerals, arguments_of}
use Rattle.model_meaning.specs.Sizes.{what_members}

-- a number's absolute value is at most the limit
abbrev pub InLimit : ℤ → Type 0
InLimit n = unsigned_abs n ≤ 1073741824

-- each number of a list
abbrev pub AllInLimit : List ℤ → Type 0
AllInLimit ns = (k : ℕ) → InLimit (value_at ns k)

-- the number of a term, where it is a numeral
abbrev pub TermInLimit : IntTerm → Type 0
TermInLimit (int_term.Number n) = InLimit n
TermInLimit (int_term.Of place) = Unit {0}

-- each term of a list
abbrev pub TermsInLimit : List IntTerm → Type 0
TermsInLimit terms = (k : ℕ) → TermInLimit (slice_index_or terms k (int_term.Number (pos 0)))

-- each number of an argument
abbrev pub ArgumentInLimit : Argument → Type 0
ArgumentInLimit (Truth x) = Unit {0}
ArgumentInLimit (Number i) = TermInLimit i
ArgumentInLimit (Truths xs) = Unit {0}
ArgumentInLimit (Numbers is) = TermsInLimit is
ArgumentInLimit (Numerals cs) = AllInLimit cs

abbrev pub ArgumentsInLimit : List Argument → Type 0
ArgumentsInLimit [] = Unit {0}
ArgumentsInLimit (a ∷ rest) = ArgumentInLimit a × ArgumentsInLimit rest

-- each number of a statement, and how many members its lists have
abbrev pub WhatInLimit : What → Type 0
WhatInLimit w = ArgumentsInLimit (arguments_of w) × (what_members w ≤ 16777216)

-- each statement
abbrev pub StmtsInLimit : List Stmt → Type 0
StmtsInLimit [] = Unit {0}
StmtsInLimit (s ∷ ss) = WhatInLimit s.what × StmtsInLimit ss

-- the bounds of a domain, or each of its listed values, which ascend
abbrev pub KindInLimit : Kind → Type 0
KindInLimit kind.Bool = Unit {0}
KindInLimit (kind.Range low high) = InLimit low × InLimit high
KindInLimit (kind.Listed values) = AllInLimit values × Ascends values

-- the bounds of each domain
abbrev pub DeclsInLimit : List Decl → Type 0
DeclsInLimit [] = Unit {0}
DeclsInLimit (d ∷ ds) = KindInLimit d.kind × DeclsInLimit ds

-- each number of a model, the bounds of each of its domains, and the members of each of its statements
abbrev pub InLimits : Model → Type 0
InLimits model = DeclsInLimit model.decls × StmtsInLimit model.stmts
