use Rattle.std.proofs.Common.{◌≡◌, ◌∙◌, ◌-◌, ◌<◌, ◌≤◌, ℕ, List, length, set, ap, sym, subst, arith, Bool, true}
use Rattle.std.specs.Vec.{vec_capacity, with_items}
use Rattle.std.proofs.lemmas.List.{with_items_is, length-set}
use Rattle.index_ring.specs.Lists.{IsRings, list_of, times}
use Rattle.clause_arena.specs.declared.codes.Span.{Span}
use Rattle.clause_arena.specs.Clauses.{Arena, Clause, clause_at, added}
use Rattle.clause_arena.specs.Layout.{IsKept, clause_of, AreMarked}
use Rattle.clause_arena.proofs.Lists.{node-there, handed, first-stands}
use Rattle.clause_arena.proofs.Seen.{arena-is, length-listed}
use Rattle.clause_arena.proofs.Changed.{kept-added, view-added, fresh-added, kept-as, view-as, marked-added}
use Rattle.clause_arena.proofs.arena.ClauseArena.add.Goals as goal
use Rattle.clause_arena.proofs.arena.ClauseArena.add.Goals.{After-as_mut_slice-2, After-as_mut_slice-3, After-unwrap-c}

stands : (c : After-unwrap-c) → 1 ≤ times c.unwrap-c.result (list_of c.self.inside.order 1)
stands c = first-stands (list_of c.self.inside.order 1) c.unwrap-c.result (sym c.first.ensures.node ∙ c.unwrap-c.ensures)

inside : (c : After-unwrap-c) → c.unwrap-c.result < length c.self.inside.spans.items
inside c = omega (arith, node-there c.self.inside.order 1 c.unwrap-c.result c.self.invariant.0.rings (stands c), c.self.invariant.0.nodes)

pub hand_over-requires-clause-node : goal.hand_over-requires-clause-node
hand_over-requires-clause-node c =
    let d = (goal.at.hand_over-requires-clause-node c).After-unwrap-c in
    node-there d.self.inside.order 1 d.unwrap-c.result d.self.invariant.0.rings (stands d)

pub bounds-as_mut_slice-c : goal.bounds-as_mut_slice-c
bounds-as_mut_slice-c c = omega (arith, inside (goal.at.bounds-as_mut_slice-c c).After-unwrap-c, c.as_mut_slice.ensures.len)

pub bounds-as_mut_slice-c-2 : goal.bounds-as_mut_slice-c-2
bounds-as_mut_slice-c-2 c = omega (arith, inside (goal.at.bounds-as_mut_slice-c-2 c).After-unwrap-c, c.as_mut_slice-2.ensures.len, c.self.invariant.0.ids_length)

stands_then : (c : After-as_mut_slice-2) → 1 ≤ times c.unwrap-c.result (list_of c.self.inside.order 1)
stands_then c = first-stands (list_of c.self.inside.order 1) c.unwrap-c.result (sym c.first.ensures.node ∙ c.unwrap-c.ensures)

room : (c : After-as_mut_slice-2) → length c.args.lits.now ≤ c.self.inside.spare
room c = omega (arith, c.requires.lits, ap (λ (a : Arena). a.spare_lits) c.self.view_is)

spans_are : (c : After-as_mut_slice-2) → (with_items c.self.inside.spans (set c.as_mut_slice.result.now c.unwrap-c.result (record { start = length c.as_slice.result.now; len = length c.args.lits.now }))).items ≡ set c.self.inside.spans.items c.unwrap-c.result (record { start = length c.self.inside.codes.items; len = length c.args.lits.now })
spans_are c =
    with_items_is c.self.inside.spans (set c.as_mut_slice.result.now c.unwrap-c.result (record { start = length c.as_slice.result.now; len = length c.args.lits.now })) (omega (arith, length-set c.as_mut_slice.result.now c.unwrap-c.result (record { start = length c.as_slice.result.now; len = length c.args.lits.now }), c.as_mut_slice.ensures.len))
    ∙ ap (λ (xs : List ℕ). set c.as_mut_slice.result.now c.unwrap-c.result (record { start = length xs; len = length c.args.lits.now })) c.as_slice.ensures.value
    ∙ ap (λ (xs : List Span). set xs c.unwrap-c.result (record { start = length c.self.inside.codes.items; len = length c.args.lits.now })) c.as_mut_slice.ensures.value

ids_are : (c : After-as_mut_slice-2) → (with_items c.self.inside.ids (set c.as_mut_slice-2.result.now c.unwrap-c.result c.args.id)).items ≡ set c.self.inside.ids.items c.unwrap-c.result c.args.id
ids_are c =
    with_items_is c.self.inside.ids (set c.as_mut_slice-2.result.now c.unwrap-c.result c.args.id) (omega (arith, length-set c.as_mut_slice-2.result.now c.unwrap-c.result c.args.id, c.as_mut_slice-2.ensures.len))
    ∙ ap (λ (xs : List ℕ). set xs c.unwrap-c.result c.args.id) c.as_mut_slice-2.ensures.value

kept : (c : After-as_mut_slice-2) → IsKept c.push_codes.new.codes.items (with_items c.self.inside.spans (set c.as_mut_slice.result.now c.unwrap-c.result (record { start = length c.as_slice.result.now; len = length c.args.lits.now }))).items (with_items c.self.inside.ids (set c.as_mut_slice-2.result.now c.unwrap-c.result c.args.id)).items c.hand_over.new.order (c.self.inside.spare - length c.args.lits.now) (c.self.inside.dead - 1) (vec_capacity c.push_codes.new.codes)
kept c =
    kept-as c.push_codes.new.codes.items (set c.self.inside.spans.items c.unwrap-c.result (record { start = length c.self.inside.codes.items; len = length c.args.lits.now })) (with_items c.self.inside.spans (set c.as_mut_slice.result.now c.unwrap-c.result (record { start = length c.as_slice.result.now; len = length c.args.lits.now }))).items (set c.self.inside.ids.items c.unwrap-c.result c.args.id) (with_items c.self.inside.ids (set c.as_mut_slice-2.result.now c.unwrap-c.result c.args.id)).items
    (handed c.self.inside.order c.unwrap-c.result 0) c.hand_over.new.order (c.self.inside.spare - length c.args.lits.now) (c.self.inside.dead - 1) (vec_capacity c.push_codes.new.codes)
    (spans_are c) (ids_are c) c.hand_over.ensures.order
    (kept-added c.self.inside.codes.items c.self.inside.spans.items c.self.inside.ids.items c.self.inside.order c.self.inside.spare c.self.inside.dead (vec_capacity c.self.inside.codes) c.self.invariant.0 c.unwrap-c.result c.args.id c.args.lits.now c.push_codes.new.codes.items (vec_capacity c.push_codes.new.codes)
    (stands_then c) (subst IsRings c.hand_over.ensures.order c.hand_over.ensures.rings) (room c) c.push_codes.ensures.codes c.push_codes.ensures.capacity)

marks_are : (c : After-as_mut_slice-3) → (with_items c.self.inside.live (set c.as_mut_slice-3.result.now c.unwrap-c.result true)).items ≡ set c.self.inside.live.items c.unwrap-c.result true
marks_are c =
    with_items_is c.self.inside.live (set c.as_mut_slice-3.result.now c.unwrap-c.result true) (omega (arith, length-set c.as_mut_slice-3.result.now c.unwrap-c.result true, c.as_mut_slice-3.ensures.len))
    ∙ ap (λ (xs : List Bool). set xs c.unwrap-c.result true) c.as_mut_slice-3.ensures.value

marked : (c : After-as_mut_slice-3) → AreMarked (with_items c.self.inside.live (set c.as_mut_slice-3.result.now c.unwrap-c.result true)).items c.hand_over.new.order
marked c =
    subst (λ (xs : List Bool). AreMarked xs c.hand_over.new.order) (sym (marks_are c))
    (subst (AreMarked (set c.self.inside.live.items c.unwrap-c.result true)) (sym c.hand_over.ensures.order)
    (marked-added c.self.inside.live.items c.self.inside.order c.unwrap-c.result c.self.invariant.1 c.self.invariant.0.rings c.self.invariant.0.two (first-stands (list_of c.self.inside.order 1) c.unwrap-c.result (sym c.first.ensures.node ∙ c.unwrap-c.ensures))))

pub invariant_of-self : goal.invariant_of-self
invariant_of-self c = (kept (goal.at.invariant_of-self c).After-as_mut_slice-2, marked (goal.at.invariant_of-self c).After-as_mut_slice-3)

pub bounds-as_mut_slice-c-3 : goal.bounds-as_mut_slice-c-3
bounds-as_mut_slice-c-3 c = omega (arith, inside (goal.at.bounds-as_mut_slice-c-3 c).After-unwrap-c, c.self.invariant.0.nodes, c.self.invariant.1.count, c.as_mut_slice-3.ensures.len)

pub returns-clause-clauses : goal.returns-clause-clauses
returns-clause-clauses c0 =
    let c = (goal.at.returns-clause-clauses c0).After-as_mut_slice-2 in
    view-as c.push_codes.new.codes.items (set c.self.inside.spans.items c.unwrap-c.result (record { start = length c.self.inside.codes.items; len = length c.args.lits.now })) (with_items c.self.inside.spans (set c.as_mut_slice.result.now c.unwrap-c.result (record { start = length c.as_slice.result.now; len = length c.args.lits.now }))).items (set c.self.inside.ids.items c.unwrap-c.result c.args.id) (with_items c.self.inside.ids (set c.as_mut_slice-2.result.now c.unwrap-c.result c.args.id)).items
    (handed c.self.inside.order c.unwrap-c.result 0) c.hand_over.new.order (c.self.inside.spare - length c.args.lits.now) (c.self.inside.dead - 1)
    (spans_are c) (ids_are c) c.hand_over.ensures.order
    ∙ view-added c.self.inside.codes.items c.self.inside.spans.items c.self.inside.ids.items c.self.inside.order c.self.inside.spare c.self.inside.dead (vec_capacity c.self.inside.codes) c.self.invariant.0 c.unwrap-c.result c.args.id c.args.lits.now c.push_codes.new.codes.items (vec_capacity c.push_codes.new.codes)
    (stands_then c) (subst IsRings c.hand_over.ensures.order c.hand_over.ensures.rings) (room c) c.push_codes.ensures.codes c.push_codes.ensures.capacity
    ∙ ap (λ (a : Arena). added a c.unwrap-c.result c.args.id c.args.lits.now) c.self.view_is

pub returns-clause-inside : goal.returns-clause-inside
returns-clause-inside c0 =
    let c = (goal.at.returns-clause-inside c0).After-as_mut_slice-2 in
    omega (arith, inside (goal.at.returns-clause-inside c0).After-unwrap-c, length-listed (clause_of c.self.inside.codes.items c.self.inside.spans.items c.self.inside.ids.items c.self.inside.order) (length c.self.inside.spans.items), ap (λ (a : Arena). length a.clauses) c.self.view_is)

pub returns-clause-fresh : goal.returns-clause-fresh
returns-clause-fresh c0 =
    let c = (goal.at.returns-clause-fresh c0).After-as_mut_slice-2 in
    ap (λ (a : Arena). (clause_at a.clauses c.unwrap-c.result).live) (sym c.self.view_is)
    ∙ ap (λ (x : Clause). x.live) (fresh-added c.self.inside.codes.items c.self.inside.spans.items c.self.inside.ids.items c.self.inside.order c.self.inside.spare c.self.inside.dead (vec_capacity c.self.inside.codes) c.self.invariant.0 c.unwrap-c.result c.args.id c.args.lits.now c.push_codes.new.codes.items (vec_capacity c.push_codes.new.codes)
    (stands_then c) (subst IsRings c.hand_over.ensures.order c.hand_over.ensures.rings) (room c) c.push_codes.ensures.codes c.push_codes.ensures.capacity)

pub returns-clause-arena : goal.returns-clause-arena
returns-clause-arena c0 =
    let c = (goal.at.returns-clause-arena c0).After-as_mut_slice-2 in
    arena-is c.push_codes.new.codes.items (with_items c.self.inside.spans (set c.as_mut_slice.result.now c.unwrap-c.result (record { start = length c.as_slice.result.now; len = length c.args.lits.now }))).items (with_items c.self.inside.ids (set c.as_mut_slice-2.result.now c.unwrap-c.result c.args.id)).items c.hand_over.new.order (c.self.inside.spare - length c.args.lits.now) (c.self.inside.dead - 1) (vec_capacity c.push_codes.new.codes)
    (kept c)
