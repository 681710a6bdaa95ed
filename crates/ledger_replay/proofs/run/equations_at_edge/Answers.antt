use Rattle.std.proofs.Common.{sym}
use Rattle.step_kernel.proofs.SettledStates.{lent}
use Rattle.step_kernel.proofs.There.{there-formed}
use Rattle.ledger_replay.proofs.Turns.{due_settled}
use Rattle.ledger_replay.proofs.run.equations_at_edge.Goals as goal

pub run_at_edge-requires : goal.run_at_edge-requires
run_at_edge-requires g c =
    let was = c.requires.settled.1 in
    there-formed was.before c.args.id c.in-Some.core.now was.kernel
    (lent c.args.state.now c.args.id c.in-Some.core.now (sym c.in-Some.ensures.core) was.before c.requires.settled.0 was.settled)

pub returns-in-Some : goal.returns-in-Some
returns-in-Some g c = record {
  due = due_settled (λ run. run.items) c.args.state.now c.args.id c.in-Some.core.now (sym c.in-Some.ensures.core) c.run_at_edge.result
      c.run_at_edge.ensures.told c.run_at_edge.ensures.below;
}
