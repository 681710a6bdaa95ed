-- The weight of a statement, and what the statement is lowered to.
use Rattle.std.specs.Prelude.{◌≡◌, ℕ, ◌+◌, ◌≤◌, List, ◌++◌, length}
use Rattle.order_ints.specs.declared.order_int.MapValue.{MapValue}
use Rattle.core_forms.specs.Cores.{costs_of}
use Rattle.model_meaning.specs.declared.model.Decl.{Decl}
use Rattle.model_meaning.specs.declared.what.What.{What}
use Rattle.model_meaning.specs.declared.what.What.TheVariants.{BoolLinear, IntSum, IntLinear}
use Rattle.model_meaning.specs.declared.statement.Relation.TheVariants as relation
use Rattle.model_meaning.specs.WellTyped.{WhatFits}
use Rattle.name_map.specs.Fits.{EntriesFit}
use Rattle.statement_lower.specs.Lines.{made_of}
use Rattle.model_weight.specs.Statements.{weight_of_what}
use Rattle.weight_laws.specs.Size.{size_of_made}

-- What a statement is lowered to behind so many variables is no larger than these and its weight. The entries are those
-- of the declarations so far, of which it speaks; its weight is that among these and any that are behind them.
abbrev pub StatementSizeLaw : Type 0
StatementSizeLaw =
    (vars m n : ℕ) (ds more : List Decl) (entries : List MapValue) (w : What)
    → EntriesFit m ds entries → WhatFits ds n w
    → size_of_made (made_of vars entries w) ≤ vars + weight_of_what (ds ++ more) w

-- The statement is lowered without a fresh integer for a linear sum: it is no linear sum, or one that is compared by
-- equality, which is one core.
abbrev pub HasNoFreshSum : What → Type 0
HasNoFreshSum (BoolLinear name rel cs xs i) = rel ≡ relation.Eq
HasNoFreshSum (IntSum name rel is i) = rel ≡ relation.Eq
HasNoFreshSum (IntLinear name rel cs is i) = rel ≡ relation.Eq
HasNoFreshSum w = Unit {0}

-- Such a statement weighs exactly its fresh variables and the costs of its cores.
abbrev pub StatementExactLaw : Type 0
StatementExactLaw =
    (vars m n : ℕ) (ds more : List Decl) (entries : List MapValue) (w : What)
    → EntriesFit m ds entries → WhatFits ds n w → HasNoFreshSum w
    → size_of_made (made_of vars entries w) ≡ vars + weight_of_what (ds ++ more) w

-- Cores that cost nothing are few: a statement has at most one more core than they cost together.
abbrev pub StatementCoresLaw : Type 0
StatementCoresLaw =
    (vars : ℕ) (entries : List MapValue) (w : What)
    → length (made_of vars entries w).cores ≤ 1 + costs_of (made_of vars entries w).cores
