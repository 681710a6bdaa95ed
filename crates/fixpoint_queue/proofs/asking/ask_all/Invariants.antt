use Rattle.std.proofs.Common.{length}
use Rattle.fixpoint_queue.specs.Ledgers.{AddsEquations}
use Rattle.fixpoint_queue.specs.Pairs.{IsCounted}
use Rattle.fixpoint_queue.specs.Waits.{IsSaturation, left_to_do, left_to_ask}
use Rattle.fixpoint_queue.proofs.asking.ask_all.Given as goal

abbrev pub invariant-loop-oracle : goal.invariant-loop-oracle
invariant-loop-oracle g l = record {
  saturation : IsSaturation g.F.Oracle.told l.state l.work.occurs l.work.queue l.work.marks;
  adds : AddsEquations g.F.Oracle.told l.fn.ledger.items l.fn.state l.ledger.items l.state;
  counted : IsCounted l.fn.state l.fn.ledger.items l.ledger.items (length l.fn.work.queue.queued) l.fn.steps l.steps (left_to_ask l.state l.work.queue);
}

abbrev pub decreases-loop-oracle : goal.decreases-loop-oracle
decreases-loop-oracle g l = left_to_do l.state l.work.queue
