use Rattle.std.proofs.Common.{◌≡◌, ◌+◌, ◌*◌, ◌≤◌, Some}
use Rattle.learning_solver.specs.Log.{additions}
use Rattle.learning_solver.specs.Outcome.{most_learned}
use Rattle.decode_minimize.specs.Seeking.{IsSeeking, left}
use Rattle.decode_minimize.proofs.improving.improve.Given as goal

-- the searches so far, and one for each value that is left, are no more than one for each value that was left at first
abbrev pub invariant-loop-ended : goal.invariant-loop-ended
invariant-loop-ended g l = record {
  cnf : l.seeker.solver.cnf ≡ l.fn.seeker.solver.cnf;
  within : additions l.seeker.solver.log ≤ l.options.budget;
  seeking : IsSeeking l.seeker.solver l.sought l.best;
  kept : l.seeker.incumbent ≡ Some l.best.number;
  no_worse : left l.sought l.best ≤ left l.sought l.fn.best;
  cost : additions l.seeker.solver.log + left l.sought l.best * most_learned l.options.restart l.fn.seeker.solver.cnf.vars ≤ additions l.fn.seeker.solver.log + left l.sought l.fn.best * most_learned l.options.restart l.fn.seeker.solver.cnf.vars;
}

abbrev pub decreases-loop-ended : goal.decreases-loop-ended
decreases-loop-ended g l = left l.sought l.best
