use Rattle.std.proofs.Common.{◌≡◌, ◌+◌, drop, length}
use Rattle.proof_check.specs.Faults.{hints_fault}
use Rattle.proof_check.specs.Assigned.{value_at}
use Rattle.proof_check.specs.Arena.{live_in}
use Rattle.proof_check.proofs.hints.follow.Given as goal

-- what is left under the values so far tells the fault
abbrev pub invariant-loop-i : goal.invariant-loop-i
invariant-loop-i l = record {
  size : length l.values ≡ length l.initial.values;
  left : hints_fault (live_in l.arena) (value_at l.values) (drop l.i l.hints) (l.i + 1)
      ≡ hints_fault (live_in l.arena) (value_at l.initial.values) l.hints 1;
}
