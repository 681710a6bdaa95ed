use Rattle.std.proofs.Common.{◌∙◌, sym}
use Rattle.step_kernel.proofs.There.{there-formed}
use Rattle.fixpoint_queue.proofs.asking.ask_pending.Goals as goal

pub ask_core-requires-clause-formed : goal.ask_core-requires-clause-formed
ask_core-requires-clause-formed g c = there-formed c.settle.new.self c.from-2.result c.in-Some-2.copy c.in_ok-copy.ensures.kernel (sym c.in_ok-copy.ensures.trimmed ∙ c.in-Some-2.is)
