use Rattle.std.proofs.Common.{length, arith, sym, ap}
use Rattle.std.specs.Prelude.{Option, is_some}
use Rattle.proof_check.proofs.Found.{none-found, whether-live, was-live, life-marked}
use Rattle.proof_check.proofs.Placed.{arena-marked}
use Rattle.proof_check.proofs.arena.Arena.kill.Goals as goal

pub invariant_of-self : goal.invariant_of-self
invariant_of-self c =
    let h = c.in-Some.ensures.found in
    arena-marked c.self.inside.codes.items c.self.inside.places.items c.in-Some.i c.index_mut.result.now _ c.self.invariant
    (omega (arith, h.0, ap length c.deref.ensures.value)) c.index_mut.ensures.value

pub returns-in-None-clause-live : goal.returns-in-None-clause-live
returns-in-None-clause-live c =
    sym (ap (λ (o : Option (_)). is_some o) (none-found c.self.inside.codes.items c.self.inside.places.items c.deref.result.now c.args.self.now c.args.id
    (record { view = c.self.view_is; same = c.deref.ensures.value; other = c.in-None.ensures.none })))

pub returns-in-Some-clause-live : goal.returns-in-Some-clause-live
returns-in-Some-clause-live c =
    let h = c.in-Some.ensures.found in
    whether-live c.self.inside.codes.items c.self.inside.places.items c.deref.result.now c.args.self.now c.in-Some.i c.args.id c.index.result.now
    (record { arena = c.self.invariant; view = c.self.view_is; same = c.deref.ensures.value; inside = h.0; has = h.1; is = c.index.ensures })

pub returns-in-Some-clause-killed : goal.returns-in-Some-clause-killed
returns-in-Some-clause-killed c was =
    let h = c.in-Some.ensures.found in
    life-marked _ c.self.inside.codes.items c.self.inside.places.items c.deref.result.now c.args.self.now c.in-Some.i c.args.id c.index_mut.result.now
    (record { arena = c.self.invariant; view = c.self.view_is; same = c.deref.ensures.value; inside = h.0; has = h.1; is = c.index_mut.ensures.value })

pub returns-in-Some-clause-was : goal.returns-in-Some-clause-was
returns-in-Some-clause-was c was =
    let h = c.in-Some.ensures.found in
    was-live c.self.inside.codes.items c.self.inside.places.items c.deref.result.now c.args.self.now c.in-Some.i c.args.id c.index.result.now
    (record { arena = c.self.invariant; view = c.self.view_is; same = c.deref.ensures.value; inside = h.0; has = h.1; is = c.index.ensures }) was
