use Rattle.std.proofs.Common.{◌++◌, length, sym, ap, ◌∙◌, subst, arith, ⊎_elim}
use Rattle.std.proofs.lemmas.Bool.{false≢true, cases_lt}
use Rattle.std.proofs.lemmas.List.{length-map}
use Rattle.index_ring.specs.Lists.{RingLists, list_of, times, without}
use Rattle.fixpoint_queue.specs.IdQueue.{Ids, IsIds}
use Rattle.fixpoint_queue.proofs.Ids.{ids-of, in-queue, queued-without}
use Rattle.index_ring.proofs.Times.{without-none}
use Rattle.fixpoint_queue.proofs.id_ring.IdRing.take.Goals as goal

pub unlink-requires : goal.unlink-requires
unlink-requires c = λ free.
    omega (arith, free, c.has.ensures.0 c.if-has.true, in-queue c.self.inside.rings c.args.self.now c.args.id c.self.invariant c.self.view_is)

pub returns-then-has-clause-queued : goal.returns-then-has-clause-queued
returns-then-has-clause-queued c =
    ap (λ (w : RingLists). list_of w 0 ++ list_of w 1) c.unlink.ensures.lists
    ∙ queued-without c.self.inside.rings.lists c.args.id c.self.invariant.two
    ∙ ap (λ (q : Ids). without c.args.id q.queued) c.self.view_is

pub returns-else-has-clause-queued : goal.returns-else-has-clause-queued
returns-else-has-clause-queued c =
    sym (without-none c.args.id c.args.self.now.queued
    (⊎_elim (λ none. omega (arith, none)) (λ some. absurd (false≢true (sym c.if-has.false ∙ c.has.ensures.1 some))) (cases_lt (times c.args.id c.args.self.now.queued) 1)))

pub returns-then-has-clause-ids : goal.returns-then-has-clause-ids
returns-then-has-clause-ids c =
    ids-of c.unlink.new.self (record {
      rings = c.unlink.ensures.rings;
      two = ap (λ (r : RingLists). length r.lists) c.unlink.ensures.lists ∙ length-map c.self.inside.rings.lists (without c.args.id) ∙ c.self.invariant.two;
    })

pub returns-else-has-clause-ids : goal.returns-else-has-clause-ids
returns-else-has-clause-ids c = subst IsIds c.self.view_is (ids-of c.self.inside.rings c.self.invariant)
