use Rattle.std.proofs.Common.{◌<◌, length, arith, ap}
use Rattle.std.proofs.lemmas.List.{length-map}
use Rattle.proof_check.specs.Arena.{kept_at}
use Rattle.proof_check.proofs.Placed.{within-at}
use Rattle.proof_check.proofs.arena.Arena.codes_of.Goals as goal

pub part-requires : goal.part-requires
part-requires c =
    let size = length-map c.self.inside.places.items (kept_at c.self.inside.codes.items) in
    let inside : c.args.i < length c.self.inside.places.items = omega (arith, c.requires, size, ap length c.self.view_is) in
    omega (arith, within-at c.self.inside.codes.items c.self.inside.places.items c.args.i c.index.result.now c.self.invariant.within inside c.index.ensures, ap length c.deref.ensures.value)
