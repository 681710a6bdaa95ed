use Rattle.std.proofs.Common.{◌∙◌, List, ap, arith}
use Rattle.std.specs.Vec.{vec_capacity}
use Rattle.clause_arena.specs.declared.codes.Span.{Span}
use Rattle.clause_arena.specs.Codes.{span_of}
use Rattle.clause_arena.proofs.Seen.{read}
use Rattle.clause_arena.proofs.arena.ClauseArena.len.Goals as goal

pub bounds-as_slice-c : goal.bounds-as_slice-c
bounds-as_slice-c c =
    let here = read c.self.inside.codes.items c.self.inside.spans.items c.self.inside.ids.items c.self.inside.order c.self.inside.spare c.self.inside.dead (vec_capacity c.self.inside.codes) c.self.invariant.0 c.args.self.now c.self.view_is c.args.c c.requires in
    omega (arith, here.inside, c.as_slice.ensures.len)

pub returns : goal.returns
returns c =
    let here = read c.self.inside.codes.items c.self.inside.spans.items c.self.inside.ids.items c.self.inside.order c.self.inside.spare c.self.inside.dead (vec_capacity c.self.inside.codes) c.self.invariant.0 c.args.self.now c.self.view_is c.args.c c.requires in
    ap (λ (spans : List Span). (span_of spans c.args.c).len) c.as_slice.ensures.value ∙ here.count
