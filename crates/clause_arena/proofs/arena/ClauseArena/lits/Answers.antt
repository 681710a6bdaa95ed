use Rattle.std.proofs.Common.{◌∙◌, ℕ, List, map, ap, arith}
use Rattle.std.specs.Vec.{vec_capacity}
use Rattle.clause_arena.specs.declared.codes.Span.{Span}
use Rattle.clause_arena.specs.Codes.{span_of, lit_of, lits_at}
use Rattle.clause_arena.proofs.Seen.{read}
use Rattle.clause_arena.proofs.arena.ClauseArena.lits.Goals as goal

pub bounds-as_slice-c : goal.bounds-as_slice-c
bounds-as_slice-c c =
    let here = read c.self.inside.codes.items c.self.inside.spans.items c.self.inside.ids.items c.self.inside.order c.self.inside.spare c.self.inside.dead (vec_capacity c.self.inside.codes) c.self.invariant.0 c.args.self.now c.self.view_is c.args.c c.requires in
    omega (arith, here.inside, c.as_slice.ensures.len)

pub bounds-as_slice-c-2 : goal.bounds-as_slice-c-2
bounds-as_slice-c-2 c =
    let here = read c.self.inside.codes.items c.self.inside.spans.items c.self.inside.ids.items c.self.inside.order c.self.inside.spare c.self.inside.dead (vec_capacity c.self.inside.codes) c.self.invariant.0 c.args.self.now c.self.view_is c.args.c c.requires in
    omega (arith, here.inside, c.as_slice.ensures.len)

pub part-requires : goal.part-requires
part-requires c =
    let here = read c.self.inside.codes.items c.self.inside.spans.items c.self.inside.ids.items c.self.inside.order c.self.inside.spare c.self.inside.dead (vec_capacity c.self.inside.codes) c.self.invariant.0 c.args.self.now c.self.view_is c.args.c c.requires in
    omega (arith, here.within, c.as_slice-2.ensures.len, ap (λ (spans : List Span). (span_of spans c.args.c).start) c.as_slice.ensures.value, ap (λ (spans : List Span). (span_of spans c.args.c).len) c.as_slice.ensures.value)

pub of-requires : goal.of-requires
of-requires c =
    let here = read c.self.inside.codes.items c.self.inside.spans.items c.self.inside.ids.items c.self.inside.order c.self.inside.spare c.self.inside.dead (vec_capacity c.self.inside.codes) c.self.invariant.0 c.args.self.now c.self.view_is c.args.c c.requires in
    omega (arith, here.within, c.part.ensures.len, c.self.invariant.0.small, ap (λ (spans : List Span). (span_of spans c.args.c).len) c.as_slice.ensures.value)

pub returns : goal.returns
returns c =
    let here = read c.self.inside.codes.items c.self.inside.spans.items c.self.inside.ids.items c.self.inside.order c.self.inside.spare c.self.inside.dead (vec_capacity c.self.inside.codes) c.self.invariant.0 c.args.self.now c.self.view_is c.args.c c.requires in
    c.of.ensures ∙ ap (map lit_of) c.part.ensures.part
    ∙ ap (λ (codes : List ℕ). lits_at codes (span_of c.as_slice.result.now c.args.c)) c.as_slice-2.ensures.value
    ∙ ap (λ (spans : List Span). lits_at c.self.inside.codes.items (span_of spans c.args.c)) c.as_slice.ensures.value
    ∙ here.lits
