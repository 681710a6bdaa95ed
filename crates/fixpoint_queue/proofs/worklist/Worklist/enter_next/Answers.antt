use Rattle.fixpoint_queue.proofs.worklist.Worklist.enter_next.Goals as goal

pub enter-requires-clause-increasing : goal.enter-requires-clause-increasing
enter-requires-clause-increasing c = c.requires.increasing c.if-id-held.false

pub enter-requires-clause-vars : goal.enter-requires-clause-vars
enter-requires-clause-vars c = c.requires.vars c.if-id-held.false

pub enter-requires-clause-fresh : goal.enter-requires-clause-fresh
enter-requires-clause-fresh c = c.requires.fresh c.if-id-held.false
