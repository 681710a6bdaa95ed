-- The laws of what is read that other crates build on.
use Rattle.std.specs.Prelude.{◌≡◌, ℕ, ◌≤◌, List}
use Rattle.order_ints.specs.declared.cnf.Cnf.{Cnf}
use Rattle.order_ints.specs.Truth.{Valuation}
use Rattle.order_ints.specs.Place.{InRange}
use Rattle.order_ints.specs.Satisfies.{clauses_truth}
use Rattle.order_ints.specs.OrderedClauses.{ClausesAscend, ClausesDiffer}
use Rattle.sat_front.specs.CnfLines.{IsCnfText}

-- the CNF is as true as the clauses that the text lists
abbrev pub SameTruth : Type 0
SameTruth = (text : List ℕ) (cnf : Cnf) (is : IsCnfText text cnf) (σ : Valuation)
    → clauses_truth σ cnf.clauses ≡ clauses_truth σ is.draft.listed.clauses

-- its variables are from 1 to their number, of which there are not too many
abbrev pub ReadInRange : Type 0
ReadInRange = (text : List ℕ) (cnf : Cnf) → IsCnfText text cnf → InRange cnf × (cnf.vars ≤ 67108864)

-- in each clause the variables ascend, and no clause occurs twice
abbrev pub ReadInOrder : Type 0
ReadInOrder = (text : List ℕ) (cnf : Cnf) → IsCnfText text cnf → ClausesAscend cnf.clauses
    × ClausesDiffer cnf.clauses
