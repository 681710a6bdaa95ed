use Rattle.std.proofs.Common.{arith}
use Rattle.core_occurrences.specs.Held.{IsUnlinked}
use Rattle.core_occurrences.proofs.Listed.{owned-le-nodes, unlinking-ids}
use Rattle.core_occurrences.proofs.linking.unlink_all.Goals as goal

pub overflow_add-count : goal.overflow_add-count
overflow_add-count c =
    let gone : IsUnlinked c.loop-count.nodes c.loop-count.rings c.unlink.new.nodes c.unlink.new.rings c.args.id = c.loop-count-test.ensures.unlinked in
    omega (arith, gone.free, c.loop-count.invariant.free, owned-le-nodes c.unlink.new.nodes 0, c.loop-count-test.ensures.chains.small)

pub returns-clause-ids : goal.returns-clause-ids
returns-clause-ids c =
    unlinking-ids c.args.nodes.now c.args.rings.now c.loop-count.nodes c.loop-count.rings c.loop-count.heads c.args.id c.loop-count.count c.loop-count.invariant c.unlink.new.nodes c.unlink.new.rings c.loop-count-test.ensures.none
