use Rattle.std.proofs.Common.{arith}
use Rattle.core_forms.proofs.Bounds.{small_bits}
use Rattle.statement_lower.proofs.QueueSteps.{turn, end}
use Rattle.statement_lower.proofs.compared_sums.compared_made.Goals as goal

pub add-requires-clause-room : goal.add-requires-clause-room
add-requires-clause-room c =
    (turn c.args.vars c.args.relation c.args.members.ints.items c.loop-queue.queue.vars c.loop-queue.queue.members.items c.take_first.new.members.items c.take_first-in-loop-queue.new.members.items
    c.in_ok-first.first c.in_ok-second.second c.loop-queue.queue.cores.items c.args.members.constant c.loop-queue.invariant (omega (arith, c.loop-queue.queue.members.ok.0))
    c.in_ok-first.ensures.first c.in_ok-first.ensures.rest c.in_ok-second.ensures.first c.in_ok-second.ensures.rest c.requires.limit c.requires.room).room

pub loop-queue-preserved : goal.loop-queue-preserved
loop-queue-preserved c =
    rw (c.in_ok-add.ensures.vars, c.in_ok-add.ensures.members, c.in_ok-add.ensures.cores)
    (turn c.args.vars c.args.relation c.args.members.ints.items c.loop-queue.queue.vars c.loop-queue.queue.members.items c.take_first.new.members.items c.take_first-in-loop-queue.new.members.items
    c.in_ok-first.first c.in_ok-second.second c.loop-queue.queue.cores.items c.args.members.constant c.loop-queue.invariant (omega (arith, c.loop-queue.queue.members.ok.0))
    c.in_ok-first.ensures.first c.in_ok-first.ensures.rest c.in_ok-second.ensures.first c.in_ok-second.ensures.rest c.requires.limit c.requires.room).next

pub returns : goal.returns
returns c =
    rw (c.from_vec.ensures, c.in_ok-push.ensures.items, c.in_ok-core.ensures, small_bits c.args.members.constant (omega (arith, c.requires.limit)))
    (end c.args.vars c.args.relation c.args.members.ints.items c.loop-queue.queue.vars c.loop-queue.queue.members.items c.take_first-2.new.members.items
    c.in_ok-first-2.first c.in_ok-second-2.second c.loop-queue.queue.cores.items c.args.members.constant c.loop-queue.invariant (omega (arith, c.loop-queue.queue.members.ok.0))
    c.in_ok-first-2.ensures.first c.in_ok-first-2.ensures.rest c.in_ok-second-2.ensures.first c.requires.limit).made
