use Rattle.std.proofs.Common.{length}
use Rattle.asking_bound.proofs.Asked.{asked-equations}
use Rattle.state_compile.proofs.Askings.{asked-more}
use Rattle.state_compile.proofs.InOrder.{adds-equations, adds-more}
use Rattle.state_compile.proofs.splitting.split_all.Goals as goal

pub loop-runner-init : goal.loop-runner-init
loop-runner-init g c = record {
  kernel = c.in_ok-saturate.ensures.kernel;
  adds = adds-equations g.F.Oracle.told c.args.runner.now.ledger c.saturate.new.self.ledger c.args.runner.now.kernel c.saturate.new.self.kernel c.in_ok-saturate.ensures.lines;
  empty = c.in_ok-saturate.ensures.empty;
  closed = c.in_ok-saturate.ensures.closed;
  asked = asked-equations c.args.runner.now.kernel c.args.runner.now.ledger c.saturate.new.self.ledger (length c.args.runner.now.queued) c.args.steps.now c.saturate.new.steps 0 c.in_ok-saturate.ensures.counted;
}

pub loop-runner-preserved : goal.loop-runner-preserved
loop-runner-preserved g c =
    let h = c.in_ok-split_least-in-Some.ensures in
    record {
      kernel = h.kernel;
      adds = adds-more g.F.Oracle.told c.args.runner.now.ledger c.loop-runner.runner.ledger c.split_least.new.runner.ledger c.args.runner.now.kernel c.loop-runner.runner.kernel c.split_least.new.runner.kernel
          c.loop-runner.invariant.adds h.adds;
      empty = h.empty;
      closed = h.closed;
      asked = asked-more g.F.Oracle.told c.args.runner.now.kernel c.loop-runner.runner.kernel c.split_least.new.runner.kernel c.args.runner.now.ledger c.loop-runner.runner.ledger c.split_least.new.runner.ledger
          (length c.args.runner.now.queued) c.args.steps.now c.loop-runner.steps c.split_least.new.steps 0 0 c.loop-runner.invariant.adds h.adds c.loop-runner.invariant.asked h.asked;
    }
