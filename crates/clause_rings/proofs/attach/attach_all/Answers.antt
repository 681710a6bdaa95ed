-- The clauses that wait leave ring 0 one after another.
use Rattle.std.proofs.Common.{ℕ, List, ◌≡◌, ◌*◌, ◌/◌, ◌<◌, length, subst, sym, Some}
use Rattle.index_ring.specs.Lists.{Stands, list_of, without, first_in}
use Rattle.clause_rings.specs.Keeping.{Keeps, seen}
use Rattle.clause_rings.specs.declared.watches.Watches.{Watches}
use Rattle.clause_rings.proofs.Looked.{advances-both}
use Rattle.clause_rings.proofs.Linked.{waits-even}
use Rattle.clause_rings.proofs.Propagated.{way-start, way-next, first-stands, less-without}
use Rattle.clause_rings.proofs.attach.attach_all.Goals as goal

-- the node that is first in ring 0 is the first one of its clause
first-waits : (w : Watches) (node : ℕ) → Keeps w → Some node ≡ first_in (list_of w.rings 0) → Stands w.rings 0 (2 * (node / 2))
first-waits w node kept is = let stands = first-stands w.rings 0 node is in subst (λ (n : ℕ). Stands w.rings 0 n) (sym (waits-even w node kept stands)) stands

pub loop-node-init : goal.loop-node-init
loop-node-init c = way-start c.args.watches.now c.requires.kept

pub attach-requires-clause-waits : goal.attach-requires-clause-waits
attach-requires-clause-waits c = first-waits c.loop-node.watches c.in-Some.node c.loop-node.invariant.kept c.in-Some.ensures.node

pub returns-then-attach-clause-advances : goal.returns-then-attach-clause-advances
returns-then-attach-clause-advances c = advances-both (seen c.args.watches.now) (seen c.loop-node.watches) (seen c.attach.new.watches) c.loop-node.invariant.advances c.if-attach.ensures.advances

pub loop-node-smaller : goal.loop-node-smaller
loop-node-smaller c =
    let stands = first-waits c.loop-node.watches c.in-Some.node c.loop-node.invariant.kept c.in-Some.ensures.node in
    let less : length (without (2 * (c.in-Some.node / 2)) (list_of c.loop-node.watches.rings 0)) < length (list_of c.loop-node.watches.rings 0) = less-without (2 * (c.in-Some.node / 2)) (list_of c.loop-node.watches.rings 0) stands in
    subst (λ (l : List ℕ). length l < length (list_of c.loop-node.watches.rings 0)) (sym c.if-attach.ensures.attached) less

pub loop-node-preserved : goal.loop-node-preserved
loop-node-preserved c = way-next c.args.watches.now c.loop-node.watches c.attach.new.watches c.loop-node.invariant c.if-attach.ensures.kept c.if-attach.ensures.advances c.if-attach.ensures.head
