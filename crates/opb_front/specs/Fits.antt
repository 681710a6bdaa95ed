-- What a text that is read is like: its indices, its numbers and its lists are in their limits.
use Rattle.std.specs.Prelude.{ℕ, ◌*◌, ◌≤◌, unsigned_abs, List, [], ◌∷◌, length, Option, Some, None}
use Rattle.opb_front.specs.declared.items.Term.{Term}
use Rattle.opb_front.specs.declared.items.Constraint.{Constraint}
use Rattle.opb_front.specs.declared.items.Objective.{Objective}
use Rattle.opb_front.specs.declared.items.Opb.{Opb}
use Rattle.opb_front.specs.Tokens.{most_number, most_index}
use Rattle.opb_front.specs.Grammar.{ObjectiveFits, IsOpbText}

pub record TermFits (vars : ℕ) (t : Term) : Type 0 where
  pub from_one : 1 ≤ t.literal.index
  pub to_last : t.literal.index ≤ vars
  pub in_limit : unsigned_abs t.coefficient ≤ most_number

abbrev pub TermsFit : ℕ → List Term → Type 0
TermsFit vars [] = Unit {0}
TermsFit vars (t ∷ ts) = TermFits vars t × TermsFit vars ts

abbrev pub ConstraintsFit : ℕ → List Constraint → Type 0
ConstraintsFit vars [] = Unit {0}
ConstraintsFit vars (c ∷ cs) = (TermsFit vars c.terms × (unsigned_abs c.bound ≤ most_number))
    × ConstraintsFit vars cs

abbrev pub objective_terms : Option Objective → List Term
objective_terms None = []
objective_terms (Some o) = o.terms

-- each index is that of a variable, of which there are not too many, and each number is in its limit
pub record OpbFits (opb : Opb) : Type 0 where
  pub vars : opb.vars ≤ most_index
  pub sums : ObjectiveFits opb.objective
  pub objective : TermsFit opb.vars (objective_terms opb.objective)
  pub constraints : ConstraintsFit opb.vars opb.constraints

-- no sum has more than half as many terms as a text of so many bytes may have words

abbrev pub AreShort : ℕ → List Constraint → Type 0
AreShort most [] = Unit {0}
AreShort most (c ∷ cs) = (2 * length c.terms ≤ most) × AreShort most cs

pub record ListsFit (most : ℕ) (opb : Opb) : Type 0 where
  pub objective : 2 * length (objective_terms opb.objective) ≤ most
  pub constraints : AreShort most opb.constraints

-- what is read fits, and its terms are no more than half of its bytes
abbrev pub ReadFits : Type 0
ReadFits = (text : List ℕ) (opb : Opb) → IsOpbText text opb → OpbFits opb × ListsFit (length text) opb
