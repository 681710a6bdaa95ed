use Rattle.std.proofs.Common.{◌∙◌, ℕ, List, get_or, ap, arith}
use Rattle.std.specs.Vec.{vec_capacity}
use Rattle.clause_arena.proofs.Seen.{read}
use Rattle.clause_arena.proofs.arena.ClauseArena.id.Goals as goal

pub bounds-as_slice-c : goal.bounds-as_slice-c
bounds-as_slice-c c =
    let here = read c.self.inside.codes.items c.self.inside.spans.items c.self.inside.ids.items c.self.inside.order c.self.inside.spare c.self.inside.dead (vec_capacity c.self.inside.codes) c.self.invariant.0 c.args.self.now c.self.view_is c.args.c c.requires in
    omega (arith, here.inside, c.as_slice.ensures.len, c.self.invariant.0.ids_length)

pub returns : goal.returns
returns c =
    let here = read c.self.inside.codes.items c.self.inside.spans.items c.self.inside.ids.items c.self.inside.order c.self.inside.spare c.self.inside.dead (vec_capacity c.self.inside.codes) c.self.invariant.0 c.args.self.now c.self.view_is c.args.c c.requires in
    ap (λ (ids : List ℕ). get_or ids c.args.c 0) c.as_slice.ensures.value ∙ here.id
