use Rattle.std.proofs.Common.{◌+◌, inr, refl, arith}
use Rattle.fixpoint_queue.proofs.Handings.{handed-none}
use Rattle.fixpoint_queue.proofs.handing.hand_on.Goals as goal

pub hand_over-requires-clause-absent : goal.hand_over-requires-clause-absent
hand_over-requires-clause-absent c = λ v. c.requires.absent v (c.args.before + c.args.place + 1) (omega arith)

pub returns-then-are_bare-clause-holds : goal.returns-then-are_bare-clause-holds
returns-then-are_bare-clause-holds c = inr (c.if-place-count.true, refl, c.hand_over.ensures.holds)

pub returns-else-place-count-clause-handed : goal.returns-else-place-count-clause-handed
returns-else-place-count-clause-handed c = handed-none c.args.occurs.now c.remove.new.self c.args.gone c.remove.ensures.lists c.remove.ensures.occurrences
