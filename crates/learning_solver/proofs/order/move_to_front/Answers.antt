use Rattle.std.proofs.Common.{◌≡◌, subst, sym, ap, ◌∙◌}
use Rattle.index_ring.specs.Lists.{RingLists, IsRings, IsFree, unlinked, pushed_front}
use Rattle.learning_solver.specs.Order.{IsRing}
use Rattle.learning_solver.proofs.RingLaws.{cut-free, front-ring}
use Rattle.learning_solver.proofs.order.move_to_front.Goals as goal

pub push_front-requires-clause-free : goal.push_front-requires-clause-free
push_front-requires-clause-free c =
    let v = c.args.v in
    let P : RingLists → Type 0 = λ r. IsFree r v in
    subst P (sym c.unlink.ensures.lists) (cut-free c.args.vars c.args.ring.now c.requires.ring v c.requires.low)

pub returns : goal.returns
returns c =
    let v = c.args.v in
    let ring = c.args.ring.now in
    let is : c.push_front.new.self ≡ pushed_front (unlinked ring v) 0 v
    = c.push_front.ensures.lists ∙ ap (λ (r : RingLists). pushed_front r 0 v) c.unlink.ensures.lists in
    let P : RingLists → Type 0 = IsRing c.args.vars in
    subst P (sym is) (front-ring c.args.vars ring c.requires.ring v c.requires.low (subst IsRings is c.push_front.ensures.rings))
