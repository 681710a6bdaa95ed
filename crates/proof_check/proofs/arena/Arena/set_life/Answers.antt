use Rattle.std.proofs.Common.{length, arith, sym, ap}
use Rattle.proof_check.proofs.Found.{none-life, life-marked}
use Rattle.proof_check.proofs.Placed.{arena-marked}
use Rattle.proof_check.proofs.arena.Arena.set_life.Goals as goal

pub invariant_of-self : goal.invariant_of-self
invariant_of-self c =
    let h = c.in-Some.ensures.found in
    arena-marked c.self.inside.codes.items c.self.inside.places.items c.in-Some.i c.index_mut.result.now c.args.live c.self.invariant
    (omega (arith, h.0, ap length c.deref.ensures.value)) c.index_mut.ensures.value

pub returns-in-None : goal.returns-in-None
returns-in-None c =
    sym (none-life c.args.live c.self.inside.codes.items c.self.inside.places.items c.deref.result.now c.args.self.now c.args.id
    (record { view = c.self.view_is; same = c.deref.ensures.value; other = c.in-None.ensures.none }))

pub returns-in-Some : goal.returns-in-Some
returns-in-Some c =
    let h = c.in-Some.ensures.found in
    life-marked c.args.live c.self.inside.codes.items c.self.inside.places.items c.deref.result.now c.args.self.now c.in-Some.i c.args.id c.index_mut.result.now
    (record { arena = c.self.invariant; view = c.self.view_is; same = c.deref.ensures.value; inside = h.0; has = h.1; is = c.index_mut.ensures.value })
