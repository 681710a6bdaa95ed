use Rattle.std.proofs.Common.{◌∙◌, ◌+◌, ℕ, List, get_or, ap, arith}
use Rattle.std.specs.Vec.{vec_capacity}
use Rattle.clause_arena.specs.declared.codes.Span.{Span}
use Rattle.clause_arena.specs.Codes.{span_of, lit_of}
use Rattle.clause_arena.proofs.Seen.{read}
use Rattle.clause_arena.proofs.arena.ClauseArena.lit_at.Goals as goal

pub bounds-as_slice-c : goal.bounds-as_slice-c
bounds-as_slice-c c =
    let here = read c.self.inside.codes.items c.self.inside.spans.items c.self.inside.ids.items c.self.inside.order c.self.inside.spare c.self.inside.dead (vec_capacity c.self.inside.codes) c.self.invariant.0 c.args.self.now c.self.view_is c.args.c c.requires.live in
    omega (arith, here.inside, c.as_slice.ensures.len)

pub bounds-as_slice-start : goal.bounds-as_slice-start
bounds-as_slice-start c =
    let here = read c.self.inside.codes.items c.self.inside.spans.items c.self.inside.ids.items c.self.inside.order c.self.inside.spare c.self.inside.dead (vec_capacity c.self.inside.codes) c.self.invariant.0 c.args.self.now c.self.view_is c.args.c c.requires.live in
    omega (arith, here.within, here.count, c.requires.place, c.as_slice-2.ensures.len, ap (λ (spans : List Span). (span_of spans c.args.c).start) c.as_slice.ensures.value)

pub returns : goal.returns
returns c =
    let here = read c.self.inside.codes.items c.self.inside.spans.items c.self.inside.ids.items c.self.inside.order c.self.inside.spare c.self.inside.dead (vec_capacity c.self.inside.codes) c.self.invariant.0 c.args.self.now c.self.view_is c.args.c c.requires.live in
    c.lit_of.ensures
    ∙ ap (λ (codes : List ℕ). lit_of (get_or codes ((span_of c.as_slice.result.now c.args.c).start + c.args.place) 0)) c.as_slice-2.ensures.value
    ∙ ap (λ (spans : List Span). lit_of (get_or c.self.inside.codes.items ((span_of spans c.args.c).start + c.args.place) 0)) c.as_slice.ensures.value
    ∙ here.at c.args.place c.requires.place
