use Rattle.std.proofs.Common.{◌≡◌, take, drop}
use Rattle.proof_check.specs.Faults.{deletion_fault}
use Rattle.proof_check.specs.Arena.{live_in}
use Rattle.proof_check.specs.Checking.{kill_all, Killable}
use Rattle.proof_check.proofs.deletion.delete.Given as goal

-- those before the place are killed, and each lived when its turn came
abbrev pub invariant-loop-i : goal.invariant-loop-i
invariant-loop-i l = record {
  killed : l.arena ≡ kill_all (take l.i l.ids) l.initial.arena;
  lived : Killable l.initial.arena (take l.i l.ids);
  left : deletion_fault (live_in l.arena) (drop l.i l.ids) ≡ deletion_fault (live_in l.initial.arena) l.ids;
}
