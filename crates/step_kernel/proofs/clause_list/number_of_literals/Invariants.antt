use Rattle.std.proofs.Common.{◌≡◌, ◌+◌, drop}
use Rattle.direct_encode.specs.Literals.{literals}
use Rattle.step_kernel.proofs.clause_list.number_of_literals.Given as goal

abbrev pub invariant-loop-clause : goal.invariant-loop-clause
invariant-loop-clause l = l.number + literals (drop l.clause-index l.clauses) ≡ literals l.fn.clauses
