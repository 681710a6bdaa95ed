use Rattle.step_kernel.proofs.StepLaws.{step-kept}
use Rattle.ledger_replay.proofs.replay.Replay.apply.Goals as goal

pub returns-then-follow-clause-models : goal.returns-then-follow-clause-models
returns-then-follow-clause-models c =
    (step-kept c.args.self.now c.follow.new.self c.args.line.now c.follow.ensures.kernel (c.follow.ensures.made c.if-follow.true)).keeps

pub returns-then-follow-clause-kernel : goal.returns-then-follow-clause-kernel
returns-then-follow-clause-kernel c =
    (step-kept c.args.self.now c.follow.new.self c.args.line.now c.follow.ensures.kernel (c.follow.ensures.made c.if-follow.true)).kernel
