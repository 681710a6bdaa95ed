use Rattle.std.proofs.Common.{◌≡◌, ◌⊎◌, ◌+◌, ◌≤◌, true, length, drop}
use Rattle.std.specs.Prelude.{vec_len, vec_capacity}
use Rattle.equation_runs.specs.Turns.{AreInTurn, EquationsBelow}
use Rattle.fixpoint_queue.specs.Taken.{HasTaken}
use Rattle.fixpoint_queue.specs.Told.{IsToldInstance}
use Rattle.fixpoint_queue.proofs.taking.take_run.Given as goal

abbrev pub invariant-loop-e : goal.invariant-loop-e
invariant-loop-e g l = record {
  taken : HasTaken g.F.Oracle.told l.id g.core l.fn.state l.fn.ledger.items l.fn.work l.state l.ledger.items l.work l.some;
  turn : (l.state.bottom ≡ true) ⊎ AreInTurn (IsToldInstance g.F.Oracle.told) g.core l.state.view (drop l.e-index l.run);
  below : EquationsBelow (length l.fn.state.view + 1) (drop l.e-index l.run);
  room : vec_len l.ledger + length l.run ≤ vec_capacity l.ledger + l.e-index;
  lines : vec_len l.ledger ≤ vec_len l.fn.ledger + l.e-index;
  capacity : vec_capacity l.ledger ≡ vec_capacity l.fn.ledger;
}

abbrev pub ghost-take_next : goal.ghost-take_next
ghost-take_next g a = g.core
