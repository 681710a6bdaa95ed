use Rattle.std.proofs.Common.{ℕ, ◌<◌, ◌⊎◌, get_or}
use Rattle.std.specs.Prelude.{Contains}
use Rattle.fixpoint_queue.proofs.handing.others.Given as goal

-- each so far is among one or the other
abbrev pub invariant-loop-var : goal.invariant-loop-var
invariant-loop-var l = record {
  from : (v : ℕ) → Contains l.come.items v → Contains l.vars v;
  all : (k : ℕ) → k < l.var-index → Contains l.come.items (get_or l.vars k 0) ⊎ Contains l.known (get_or l.vars k 0);
}
