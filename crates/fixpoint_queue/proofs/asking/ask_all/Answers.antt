use Rattle.std.proofs.Common.{◌≡◌, ℕ, false, length, inr, subst, rules}
use Rattle.fixpoint_queue.specs.Pairs.{IsCounted}
use Rattle.fixpoint_queue.specs.Waits.{left_to_ask}
use Rattle.fixpoint_queue.proofs.Counted.{counted-then, left-running}
use Rattle.fixpoint_queue.proofs.LedgerLaws.{adds-trans, closed-none, empty-queue}
use Rattle.fixpoint_queue.proofs.asking.ask_all.Goals as goal

pub loop-oracle-preserved : goal.loop-oracle-preserved
loop-oracle-preserved g c =
    let running : c.loop-oracle.state.bottom ≡ false = search rules in
    let asked : IsCounted c.args.state.now c.args.ledger.now.items c.loop-oracle.ledger.items (length c.args.work.now.queue.queued) c.args.steps.now c.loop-oracle.steps (length c.loop-oracle.work.queue.queued) =
    subst (λ (n : ℕ). IsCounted c.args.state.now c.args.ledger.now.items c.loop-oracle.ledger.items (length c.args.work.now.queue.queued) c.args.steps.now c.loop-oracle.steps n)
    (left-running c.loop-oracle.state c.loop-oracle.work.queue running) c.loop-oracle.invariant.counted in
    record {
      saturation = c.ask_first.ensures.saturation;
      adds = adds-trans g.F.Oracle.told c.args.ledger.now.items c.loop-oracle.ledger.items c.ask_first.new.ledger.items c.args.state.now c.loop-oracle.state c.ask_first.new.state
          c.loop-oracle.invariant.adds c.ask_first.ensures.adds;
      counted = counted-then g.F.Oracle.told c.args.state.now c.loop-oracle.state c.ask_first.new.state c.args.ledger.now.items c.loop-oracle.ledger.items c.ask_first.new.ledger.items (length c.args.work.now.queue.queued)
          c.args.steps.now c.loop-oracle.steps (length c.loop-oracle.work.queue.queued) c.ask_first.new.steps (left_to_ask c.ask_first.new.state c.ask_first.new.work.queue) c.loop-oracle.invariant.adds c.ask_first.ensures.adds
          asked c.in_ok-ask_first-in-Some.ensures.counted;
    }

pub returns-in_err-ask_first-in-Some-clause-counted : goal.returns-in_err-ask_first-in-Some-clause-counted
returns-in_err-ask_first-in-Some-clause-counted g c =
    let running : c.loop-oracle.state.bottom ≡ false = search rules in
    let asked : IsCounted c.args.state.now c.args.ledger.now.items c.loop-oracle.ledger.items (length c.args.work.now.queue.queued) c.args.steps.now c.loop-oracle.steps (length c.loop-oracle.work.queue.queued) =
    subst (λ (n : ℕ). IsCounted c.args.state.now c.args.ledger.now.items c.loop-oracle.ledger.items (length c.args.work.now.queue.queued) c.args.steps.now c.loop-oracle.steps n)
    (left-running c.loop-oracle.state c.loop-oracle.work.queue running) c.loop-oracle.invariant.counted in
    counted-then g.F.Oracle.told c.args.state.now c.loop-oracle.state c.ask_first.new.state c.args.ledger.now.items c.loop-oracle.ledger.items c.ask_first.new.ledger.items (length c.args.work.now.queue.queued)
    c.args.steps.now c.loop-oracle.steps (length c.loop-oracle.work.queue.queued) c.ask_first.new.steps 0 c.loop-oracle.invariant.adds c.ask_first.ensures.adds
    asked c.in_err-ask_first-in-Some.ensures.refused

pub returns-in_err-ask_first-in-Some-clause-adds : goal.returns-in_err-ask_first-in-Some-clause-adds
returns-in_err-ask_first-in-Some-clause-adds g c =
    adds-trans g.F.Oracle.told c.args.ledger.now.items c.loop-oracle.ledger.items c.ask_first.new.ledger.items c.args.state.now c.loop-oracle.state c.ask_first.new.state
    c.loop-oracle.invariant.adds c.ask_first.ensures.adds

pub returns-in-None-clause-closed : goal.returns-in-None-clause-closed
returns-in-None-clause-closed g c = inr (closed-none g.F.Oracle.told c.loop-oracle.state c.loop-oracle.work.queue.queued c.in-None.ensures.first c.loop-oracle.invariant.saturation.waits)

pub returns-in-None-clause-empty : goal.returns-in-None-clause-empty
returns-in-None-clause-empty g c = inr (empty-queue c.loop-oracle.work.queue.queued c.in-None.ensures.first)
