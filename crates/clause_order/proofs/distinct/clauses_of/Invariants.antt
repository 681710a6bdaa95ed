use Rattle.std.proofs.Common.{◌≡◌, ◌++◌, map}
use Rattle.clause_order.proofs.DistinctSteps.{literals_of}
use Rattle.clause_order.proofs.distinct.clauses_of.Given as goal

-- the clauses so far and those that are left are those of the set
abbrev pub invariant-loop-literals : goal.invariant-loop-literals
invariant-loop-literals l = l.clauses.items ++ map literals_of l.literals-iterator ≡ map literals_of l.fn.set.keys
