use Rattle.std.proofs.Common.{◌≤◌, ◌<◌, subst, sym, ◌∙◌, arith, rules, ⊎_elim}
use Rattle.std.proofs.lemmas.Bool.{false≢true, cases_lt}
use Rattle.index_ring.specs.Lists.{RingLists, times}
use Rattle.fixpoint_queue.specs.IdQueue.{Ids, IsIds, IsPut, AreQueueRings, ids_of}
use Rattle.fixpoint_queue.proofs.Ids.{ids-of, in-queue, put-pushed}
use Rattle.fixpoint_queue.proofs.id_ring.IdRing.put.Goals as goal

pub push_back-requires-clause-free : goal.push_back-requires-clause-free
push_back-requires-clause-free c =
    let counted = in-queue c.self.inside.rings c.args.self.now c.args.id c.self.invariant c.self.view_is in
    ⊎_elim
    (λ (none : times c.args.id c.args.self.now.queued < 1). omega (arith, none, counted))
    (λ (some : 1 ≤ times c.args.id c.args.self.now.queued). absurd (false≢true (sym c.if-not-has.true ∙ c.has.ensures.1 some)))
    (cases_lt (times c.args.id c.args.self.now.queued) 1)

pub returns-then-not-has-clause-put : goal.returns-then-not-has-clause-put
returns-then-not-has-clause-put c =
    let old = c.self.inside.rings in
    let made : IsPut (ids_of old) c.args.id (ids_of c.push_back.new.self) =
    subst (λ (w : RingLists). IsPut (ids_of old) c.args.id (ids_of w)) (sym c.push_back.ensures.lists)
    (put-pushed old.nodes old.lists c.ring_of.result c.args.id c.self.invariant.two c.ring_of.ensures) in
    subst (λ (q : Ids). IsPut q c.args.id (ids_of c.push_back.new.self)) c.self.view_is made

pub returns-then-not-has-clause-ids : goal.returns-then-not-has-clause-ids
returns-then-not-has-clause-ids c =
    let rings : AreQueueRings c.push_back.new.self = search rules in
    ids-of c.push_back.new.self rings

pub returns-else-not-has-clause-ids : goal.returns-else-not-has-clause-ids
returns-else-not-has-clause-ids c = subst IsIds c.self.view_is (ids-of c.self.inside.rings c.self.invariant)
