use Rattle.std.proofs.Common.{◌≡◌, ℕ, ◌<◌, [], get_or}
use Rattle.core_occurrences.specs.Lists.{cores_at}
use Rattle.fixpoint_queue.proofs.handing.are_bare.Given as goal

abbrev pub invariant-loop-var : goal.invariant-loop-var
invariant-loop-var l = (k : ℕ) → k < l.var-index → cores_at l.occurs (get_or l.vars k 0) ≡ []
