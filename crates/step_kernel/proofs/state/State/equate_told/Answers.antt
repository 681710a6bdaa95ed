use Rattle.step_kernel.proofs.There.{there-labels, there-equated}
use Rattle.step_kernel.proofs.state.State.equate_told.Goals as goal

pub equate-requires-clause-first : goal.equate-requires-clause-first
equate-requires-clause-first c = let at = c.requires.instance in (there-labels c.args.self.now c.args.id at.0 c.requires.kernel at.1 c.args.e.now at.2).0

pub equate-requires-clause-second : goal.equate-requires-clause-second
equate-requires-clause-second c = let at = c.requires.instance in (there-labels c.args.self.now c.args.id at.0 c.requires.kernel at.1 c.args.e.now at.2).1

pub equate-requires-clause-kernel : goal.equate-requires-clause-kernel
equate-requires-clause-kernel c = let at = c.requires.instance in there-equated c.args.self.now c.args.id at.0 c.requires.kernel at.1 c.args.e.now at.2
