use Rattle.proof_check.proofs.Found.{none-found, live-found, dead-found}
use Rattle.proof_check.proofs.arena.Arena.find_live.Goals as goal

pub returns-in-None-clause-none : goal.returns-in-None-clause-none
returns-in-None-clause-none c =
    none-found c.self.inside.codes.items c.self.inside.places.items c.deref.result.now c.args.self.now c.args.id
    (record { view = c.self.view_is; same = c.deref.ensures.value; other = c.in-None.ensures.none })

pub returns-then-index-clause-clause : goal.returns-then-index-clause-clause
returns-then-index-clause-clause c =
    let h = c.in-Some.ensures.found in
    live-found c.self.inside.codes.items c.self.inside.places.items c.deref.result.now c.args.self.now c.in-Some.i c.args.id c.index.result.now
    (record { arena = c.self.invariant; view = c.self.view_is; same = c.deref.ensures.value; inside = h.0; has = h.1; is = c.index.ensures }) c.if-index.true

pub returns-else-index-clause-none : goal.returns-else-index-clause-none
returns-else-index-clause-none c =
    let h = c.in-Some.ensures.found in
    dead-found c.self.inside.codes.items c.self.inside.places.items c.deref.result.now c.args.self.now c.in-Some.i c.args.id c.index.result.now
    (record { arena = c.self.invariant; view = c.self.view_is; same = c.deref.ensures.value; inside = h.0; has = h.1; is = c.index.ensures }) c.if-index.false
