use Rattle.std.proofs.Common.{subst, sym, arith}
use Rattle.index_ring.specs.Lists.{Stands}
use Rattle.learning_solver.specs.Order.{IsFreeIn}
use Rattle.learning_solver.proofs.RingLaws.{free-there, stands-variable, stands-taken, behind-stands, either-free}
use Rattle.learning_solver.proofs.order.most_active.Goals as goal
use Rattle.learning_solver.proofs.order.most_active.Goals.{then-is_free+else-met-ge-LOOKED_AT, else-is_free}

pub places-init : goal.places-init
places-init c =
    let t = c.args.db.now.trail in
    let first = c.requires.first in
    record {
      best = first;
      stands = behind-stands t.vars c.args.ring.now c.args.first c.after-at.result c.requires.ring (c.requires.ring.all c.args.first first.low first.high) c.after-at.ensures.node;
      few = omega arith;
    }

stands-here : (c : goal.In-Some) → Stands c.args.ring.now 0 c.in-Some.v
stands-here c = c.places.invariant.stands c.in-Some.v c.in-Some.is

pub is_free-requires-clause-low : goal.is_free-requires-clause-low
is_free-requires-clause-low c = (stands-variable c.args.db.now.trail.vars c.args.ring.now c.in-Some.v c.requires.ring (c.places.invariant.stands c.in-Some.v c.in-Some.is)).0

pub is_free-requires-clause-high : goal.is_free-requires-clause-high
is_free-requires-clause-high c = (stands-variable c.args.db.now.trail.vars c.args.ring.now c.in-Some.v c.requires.ring (c.places.invariant.stands c.in-Some.v c.in-Some.is)).1

pub livelier-best-requires-clause-second : goal.livelier-best-requires-clause-second
livelier-best-requires-clause-second c =
    let range = stands-variable c.args.db.now.trail.vars c.args.ring.now c.in-Some.v c.requires.ring (c.places.invariant.stands c.in-Some.v c.in-Some.is) in
    omega (arith, range.1, c.requires.activity)

pub returns-then-met-ge-LOOKED_AT : goal.returns-then-met-ge-LOOKED_AT
returns-then-met-ge-LOOKED_AT c =
    let t = c.args.db.now.trail in
    either-free t c.places.best c.in-Some.v c.livelier-best.result c.places.invariant.best (free-there t c.args.ring.now c.in-Some.v c.requires.ring (c.places.invariant.stands c.in-Some.v c.in-Some.is) (c.is_free.ensures.0 c.if-is_free.true)) c.livelier-best.ensures

pub after-at-requires-in-places : goal.after-at-requires-in-places
after-at-requires-in-places c = stands-taken c.args.ring.now c.in-Some.v (c.places.invariant.stands c.in-Some.v c.in-Some.is)

pub places-preserved : goal.places-preserved
places-preserved c =
    let t = c.args.db.now.trail in
    let ring = c.args.ring.now in
    let v = c.in-Some.v in
    let stands = c.places.invariant.stands v c.in-Some.is in
    record {
      best = elim c.if-is_free.branch [
        | then-is_free+else-met-ge-LOOKED_AT w ↦
            subst (IsFreeIn t) (sym w.best-is) (either-free t c.places.best v w.livelier-best.result c.places.invariant.best (free-there t ring v c.requires.ring stands (c.is_free.ensures.0 w.if-is_free.true)) w.livelier-best.ensures)
        | else-is_free w ↦ subst (IsFreeIn t) (sym w.best-is) c.places.invariant.best
      ];
      stands = behind-stands t.vars ring v c.after-at-in-places.result c.requires.ring stands c.after-at-in-places.ensures.node;
      few = elim c.if-is_free.branch [
        | then-is_free+else-met-ge-LOOKED_AT w ↦ omega (arith, w.met-is, w.if-met-ge-LOOKED_AT.false)
        | else-is_free w ↦ omega (arith, w.met-is, c.places.invariant.few)
      ];
    }
