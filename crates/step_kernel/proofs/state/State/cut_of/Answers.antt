use Rattle.step_kernel.proofs.CutSplits.{whole-stable, cut-made-out}
use Rattle.step_kernel.proofs.state.State.cut_of.Goals as goal

pub cut_settled-made-requires : goal.cut_settled-made-requires
cut_settled-made-requires c =
    whole-stable c.args.self.now c.settle_whole.new.self c.args.id c.in-Some.edge (rw c.in-Some.is at c.in_ok-edge.ensures.settled)

pub unsettle-requires : goal.unsettle-requires
unsettle-requires c = record {
  before = c.args.self.now;
  kernel = c.settle_whole.ensures.kernel;
  settled = (rw c.in-Some.is at c.in_ok-edge.ensures.settled).settled;
}

pub returns-clause-cut : goal.returns-clause-cut
returns-clause-cut c =
    cut-made-out c.cut_settled-made.result c.args.self.now c.settle_whole.new.self c.args.id c.in-Some.edge c.cut_settled-made.ensures
    (rw c.in-Some.is at c.in_ok-edge.ensures.settled)

pub returns-clause-stays : goal.returns-clause-stays
returns-clause-stays c = c.unsettle.ensures c.args.self.now (rw c.in-Some.is at c.in_ok-edge.ensures.settled).settled
