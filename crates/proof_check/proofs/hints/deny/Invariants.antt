use Rattle.std.proofs.Common.{◌≡◌, ◌+◌, [], take, drop, reverse, length}
use Rattle.proof_check.specs.Faults.{lits_fault, against}
use Rattle.proof_check.specs.Assigned.{value_at}
use Rattle.proof_check.proofs.hints.deny.Given as goal

-- the literals so far are denied, and what is left tells the fault
abbrev pub invariant-loop-i : goal.invariant-loop-i
invariant-loop-i l = record {
  size : length l.values ≡ length l.initial.values;
  denied : value_at l.values ≡ against (reverse (take l.i l.lits));
  left : lits_fault l.vars (reverse (take l.i l.lits)) (drop l.i l.lits) (l.i + 1) ≡ lits_fault l.vars [] l.lits 1;
}
