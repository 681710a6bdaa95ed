use Rattle.std.proofs.Common.{◌≡◌, drop}
use Rattle.order_ints.specs.Truth.{valuation_of}
use Rattle.order_ints.specs.FirstFalse.{first_false_from, first_false_place}
use Rattle.order_ints.proofs.cnf_truth.first_false_clause.Given as goal

-- the clauses so far are true
abbrev pub invariant-loop-i : goal.invariant-loop-i
invariant-loop-i l =
    first_false_from l.i (valuation_of l.sigma) (drop l.i l.clauses) ≡ first_false_place (valuation_of l.sigma) l.clauses
