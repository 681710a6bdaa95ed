use Rattle.std.proofs.Common.{length, ap, ◌∙◌, subst}
use Rattle.std.proofs.lemmas.List.{append-nil}
use Rattle.index_ring.specs.Lists.{RingLists}
use Rattle.fixpoint_queue.specs.IdQueue.{IsIds}
use Rattle.fixpoint_queue.proofs.Ids.{ids-of}
use Rattle.fixpoint_queue.proofs.id_ring.IdRing.grow_to.Goals as goal

pub returns-in_err-grow-clause-ids : goal.returns-in_err-grow-clause-ids
returns-in_err-grow-clause-ids c =
    ids-of c.grow.new.self (record {
      rings = c.grow.ensures.rings;
      two = ap (λ (r : RingLists). length r.lists) c.in_err-grow.ensures.err ∙ c.self.invariant.two;
    })

pub returns-in_ok-grow-clause-ids : goal.returns-in_ok-grow-clause-ids
returns-in_ok-grow-clause-ids c =
    ids-of c.grow.new.self (record {
      rings = c.grow.ensures.rings;
      two = ap (λ (r : RingLists). length r.lists) c.in_ok-grow.ensures.lists ∙ ap length (append-nil c.self.inside.rings.lists) ∙ c.self.invariant.two;
    })

pub returns-else-places-ids-clause-ids : goal.returns-else-places-ids-clause-ids
returns-else-places-ids-clause-ids c = subst IsIds c.self.view_is (ids-of c.self.inside.rings c.self.invariant)
