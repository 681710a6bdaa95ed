use Rattle.std.proofs.lemmas.List.{with_items_is, length-set}
use Rattle.std.proofs.Common.{◌∙◌, ◌+◌, ap, sym, subst, arith, Bool, false, set, List, ◌≡◌}
use Rattle.std.specs.Vec.{vec_capacity, with_items}
use Rattle.index_ring.specs.Lists.{RingLists, IsRings}
use Rattle.clause_arena.specs.Clauses.{Arena, deleted}
use Rattle.clause_arena.specs.Layout.{IsKept, arena_of, AreMarked}
use Rattle.clause_arena.proofs.Lists.{not_free, node-there, length-ring}
use Rattle.clause_arena.proofs.Seen.{read, arena-is}
use Rattle.clause_arena.proofs.Changed.{kept-deleted, view-deleted, marked-deleted}
use Rattle.clause_arena.proofs.arena.ClauseArena.delete.Goals as goal
use Rattle.clause_arena.proofs.arena.ClauseArena.delete.Goals.{After-hand_over, After-as_mut_slice}

pub hand_over-requires-clause-node : goal.hand_over-requires-clause-node
hand_over-requires-clause-node c = node-there c.self.inside.order 0 c.args.c c.self.invariant.0.rings (read c.self.inside.codes.items c.self.inside.spans.items c.self.inside.ids.items c.self.inside.order c.self.inside.spare c.self.inside.dead (vec_capacity c.self.inside.codes) c.self.invariant.0 c.args.self.now c.self.view_is c.args.c c.requires).stands

pub hand_over-requires-clause-stands : goal.hand_over-requires-clause-stands
hand_over-requires-clause-stands c = not_free c.self.inside.order 0 c.args.c (read c.self.inside.codes.items c.self.inside.spans.items c.self.inside.ids.items c.self.inside.order c.self.inside.spare c.self.inside.dead (vec_capacity c.self.inside.codes) c.self.invariant.0 c.args.self.now c.self.view_is c.args.c c.requires).stands

pub overflow_add-self : goal.overflow_add-self
overflow_add-self c = omega (arith, c.self.invariant.0.others, length-ring c.self.inside.order 1 c.self.invariant.0.rings, c.self.invariant.0.rings.small)

pub bounds-as_slice-c : goal.bounds-as_slice-c
bounds-as_slice-c c = omega (arith, (read c.self.inside.codes.items c.self.inside.spans.items c.self.inside.ids.items c.self.inside.order c.self.inside.spare c.self.inside.dead (vec_capacity c.self.inside.codes) c.self.invariant.0 c.args.self.now c.self.view_is c.args.c c.requires).inside, c.as_slice.ensures.len)

kept : (c : After-hand_over) → IsKept c.self.inside.codes.items c.self.inside.spans.items c.self.inside.ids.items c.hand_over.new.order c.self.inside.spare (c.self.inside.dead + 1) (vec_capacity c.self.inside.codes)
kept c =
    subst (λ (r : RingLists). IsKept c.self.inside.codes.items c.self.inside.spans.items c.self.inside.ids.items r c.self.inside.spare (c.self.inside.dead + 1) (vec_capacity c.self.inside.codes)) (sym c.hand_over.ensures.order)
    (kept-deleted c.self.inside.codes.items c.self.inside.spans.items c.self.inside.ids.items c.self.inside.order c.self.inside.spare c.self.inside.dead (vec_capacity c.self.inside.codes) c.self.invariant.0 c.args.c (read c.self.inside.codes.items c.self.inside.spans.items c.self.inside.ids.items c.self.inside.order c.self.inside.spare c.self.inside.dead (vec_capacity c.self.inside.codes) c.self.invariant.0 c.args.self.now c.self.view_is c.args.c c.requires).stands (subst IsRings c.hand_over.ensures.order c.hand_over.ensures.rings))

marks_are : (c : After-as_mut_slice) → (with_items c.self.inside.live (set c.as_mut_slice.result.now c.args.c false)).items ≡ set c.self.inside.live.items c.args.c false
marks_are c =
    with_items_is c.self.inside.live (set c.as_mut_slice.result.now c.args.c false) (omega (arith, length-set c.as_mut_slice.result.now c.args.c false, c.as_mut_slice.ensures.len))
    ∙ ap (λ (xs : List Bool). set xs c.args.c false) c.as_mut_slice.ensures.value

marked : (c : After-as_mut_slice) → AreMarked (with_items c.self.inside.live (set c.as_mut_slice.result.now c.args.c false)).items c.hand_over.new.order
marked c =
    subst (λ (xs : List Bool). AreMarked xs c.hand_over.new.order) (sym (marks_are c))
    (subst (AreMarked (set c.self.inside.live.items c.args.c false)) (sym c.hand_over.ensures.order)
    (marked-deleted c.self.inside.live.items c.self.inside.order c.args.c c.self.invariant.1 c.self.invariant.0.rings c.self.invariant.0.two (read c.self.inside.codes.items c.self.inside.spans.items c.self.inside.ids.items c.self.inside.order c.self.inside.spare c.self.inside.dead (vec_capacity c.self.inside.codes) c.self.invariant.0 c.args.self.now c.self.view_is c.args.c c.requires).stands))

pub invariant_of-self : goal.invariant_of-self
invariant_of-self c = (kept (goal.at.invariant_of-self c).After-hand_over, marked (goal.at.invariant_of-self c).After-as_mut_slice)

pub bounds-as_mut_slice-c : goal.bounds-as_mut_slice-c
bounds-as_mut_slice-c c = omega (arith, (read c.self.inside.codes.items c.self.inside.spans.items c.self.inside.ids.items c.self.inside.order c.self.inside.spare c.self.inside.dead (vec_capacity c.self.inside.codes) c.self.invariant.0 c.args.self.now c.self.view_is c.args.c c.requires).inside, c.self.invariant.0.nodes, c.self.invariant.1.count, c.as_mut_slice.ensures.len)

pub returns-clause-clauses : goal.returns-clause-clauses
returns-clause-clauses c =
    ap (λ (r : RingLists). arena_of c.self.inside.codes.items c.self.inside.spans.items c.self.inside.ids.items r c.self.inside.spare (c.self.inside.dead + 1)) c.hand_over.ensures.order
    ∙ view-deleted c.self.inside.codes.items c.self.inside.spans.items c.self.inside.ids.items c.self.inside.order c.self.inside.spare c.self.inside.dead (vec_capacity c.self.inside.codes) c.self.invariant.0 c.args.c (read c.self.inside.codes.items c.self.inside.spans.items c.self.inside.ids.items c.self.inside.order c.self.inside.spare c.self.inside.dead (vec_capacity c.self.inside.codes) c.self.invariant.0 c.args.self.now c.self.view_is c.args.c c.requires).stands (subst IsRings c.hand_over.ensures.order c.hand_over.ensures.rings)
    ∙ ap (λ (a : Arena). deleted a c.args.c) c.self.view_is

pub returns-clause-arena : goal.returns-clause-arena
returns-clause-arena c =
    arena-is c.self.inside.codes.items c.self.inside.spans.items c.self.inside.ids.items c.hand_over.new.order c.self.inside.spare (c.self.inside.dead + 1) (vec_capacity c.self.inside.codes)
    (kept (goal.at.returns-clause-arena c).After-hand_over)
