use Rattle.fixpoint_queue.proofs.worklist.Worklist.enter.Goals as goal

pub add-requires-clause-fresh : goal.add-requires-clause-fresh
add-requires-clause-fresh c = λ v listed. c.requires.fresh v
