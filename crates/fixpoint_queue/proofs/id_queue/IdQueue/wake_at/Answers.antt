use Rattle.std.proofs.Common.{◌≡◌, ℕ, List, sym, ap, subst, arith}
use Rattle.std.specs.Prelude.{Contains}
use Rattle.fixpoint_queue.specs.IdQueue.{Ids}
use Rattle.fixpoint_queue.proofs.Waking.{placed-at, few-at}
use Rattle.fixpoint_queue.proofs.id_queue.IdQueue.wake_at.Goals as goal

pub ids_at-requires-clause-room : goal.ids_at-requires-clause-room
ids_at-requires-clause-room c =
    let places : c.args.self.now.places ≡ c.self.inside.ids.places = ap (λ (q : Ids). q.places) (sym c.self.view_is) in
    omega (arith, few-at c.args.state.now c.args.occurs.now c.requires.listed c.args.self.now c.requires.queued c.requires.places c.args.var c.requires.low, c.self.invariant.1, places)

pub put_all_having-requires-clause-places : goal.put_all_having-requires-clause-places
put_all_having-requires-clause-places c = λ id there.
    let places : c.args.self.now.places ≡ c.self.inside.ids.places = ap (λ (q : Ids). q.places) (sym c.self.view_is) in
    let occurs = (c.ids_at.ensures.same id).0 (subst (λ (l : List ℕ). Contains l id) c.as_slice.ensures.value there) in
    omega (arith, placed-at c.args.state.now c.args.occurs.now c.requires.listed c.args.self.now c.requires.queued c.requires.places c.args.var c.requires.low id occurs, places)

pub returns-clause-woken : goal.returns-clause-woken
returns-clause-woken c = λ id has.
    let occurs = (c.requires.listed.there c.args.var id c.requires.low).1 has in
    c.put_all_having.ensures.woken id (subst (λ (l : List ℕ). Contains l id) (sym c.as_slice.ensures.value) ((c.ids_at.ensures.same id).1 occurs)) has
