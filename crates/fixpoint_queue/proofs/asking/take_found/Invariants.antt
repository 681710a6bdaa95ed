use Rattle.fixpoint_queue.proofs.asking.take_found.Given as goal

abbrev pub ghost-take_run : goal.ghost-take_run
ghost-take_run g a = g.core
