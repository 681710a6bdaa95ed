use Rattle.std.proofs.Common.{◌≡◌, drop}
use Rattle.order_ints.specs.Truth.{valuation_of}
use Rattle.order_ints.specs.Satisfies.{clause_truth}
use Rattle.order_ints.proofs.cnf_truth.is_clause_true.Given as goal

-- the clause is as true as the literals that are left
abbrev pub invariant-loop-literal : goal.invariant-loop-literal
invariant-loop-literal l = clause_truth (valuation_of l.sigma) (drop l.literal-index l.clause) ≡ clause_truth (valuation_of l.sigma) l.clause
