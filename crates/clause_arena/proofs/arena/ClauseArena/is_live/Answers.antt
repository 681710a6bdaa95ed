use Rattle.std.proofs.Common.{◌≡◌, ◌∙◌, Bool, false, List, get_or, length, ap, sym, arith}
use Rattle.std.specs.Vec.{vec_capacity}
use Rattle.std.proofs.lemmas.Bool.{ltb-true}
use Rattle.clause_arena.proofs.Seen.{read, live-marked}
use Rattle.clause_arena.proofs.arena.ClauseArena.is_live.Goals as goal

pub returns-then-c-as_slice : goal.returns-then-c-as_slice
returns-then-c-as_slice c =
    let mark : get_or c.as_slice-then-c-as_slice.result.now c.args.c false ≡ get_or c.self.inside.live.items c.args.c false =
    ap (λ (marks : List Bool). get_or marks c.args.c false) c.as_slice-then-c-as_slice.ensures.value in
    let both = live-marked c.self.inside.codes.items c.self.inside.spans.items c.self.inside.ids.items c.self.inside.order c.self.inside.spare c.self.inside.dead (vec_capacity c.self.inside.codes) c.self.invariant.0 c.self.inside.live.items c.self.invariant.1 c.args.self.now c.self.view_is c.args.c in
    ((λ on. both.0 (sym mark ∙ on)), (λ live. mark ∙ both.1 live))

pub returns-else-c-as_slice : goal.returns-else-c-as_slice
returns-else-c-as_slice c = (
  (λ on. absurd (omega (arith, c.if-c-as_slice.false, ltb-true c.args.c (length c.as_slice.result.now) on))),
  (λ live. absurd (omega (arith, c.if-c-as_slice.false, c.as_slice.ensures.len, (read c.self.inside.codes.items c.self.inside.spans.items c.self.inside.ids.items c.self.inside.order c.self.inside.spare c.self.inside.dead (vec_capacity c.self.inside.codes) c.self.invariant.0 c.args.self.now c.self.view_is c.args.c live).inside, c.self.invariant.0.nodes, c.self.invariant.1.count))),
)
