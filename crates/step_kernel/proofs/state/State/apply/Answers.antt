use Rattle.step_kernel.proofs.Outcomes.{models-after, kernel-after}
use Rattle.step_kernel.proofs.state.State.apply.Goals as goal

pub returns-clause-models : goal.returns-clause-models
returns-clause-models c = models-after c.args.self.now c.make_step.new.self c.args.line.now c.make_step.ensures.kernel c.make_step.result c.make_step.ensures.step

pub returns-clause-kernel : goal.returns-clause-kernel
returns-clause-kernel c = kernel-after c.args.self.now c.make_step.new.self c.args.line.now c.make_step.ensures.kernel c.make_step.result c.make_step.ensures.step c.make_step.ensures.stays
