use Rattle.step_kernel.proofs.There.{there-labels}
use Rattle.fixpoint_queue.proofs.taking.take_equation.Goals as goal

pub wake_for-requires-clause-first : goal.wake_for-requires-clause-first
wake_for-requires-clause-first c = let at = c.requires.instance in (there-labels c.args.state.now c.args.id at.0 c.requires.kernel at.1 c.args.e at.2).0

pub wake_for-requires-clause-second : goal.wake_for-requires-clause-second
wake_for-requires-clause-second c = let at = c.requires.instance in (there-labels c.args.state.now c.args.id at.0 c.requires.kernel at.1 c.args.e at.2).1
