use Rattle.std.proofs.Common.{◌≡◌, ◌∙◌, ◌+◌, ◌<◌, ◌≤◌, ℕ, List, ap, sym, subst, arith}
use Rattle.std.specs.Prelude.{swap}
use Rattle.std.specs.Vec.{vec_capacity, with_items}
use Rattle.std.proofs.lemmas.List.{with_items_is}
use Rattle.index_ring.specs.Lists.{times, list_of}
use Rattle.clause_arena.specs.declared.codes.Span.{Span}
use Rattle.clause_arena.specs.Codes.{span_of}
use Rattle.clause_arena.specs.Clauses.{Arena, swapped}
use Rattle.clause_arena.specs.Layout.{IsKept, arena_of}
use Rattle.clause_arena.proofs.Seen.{read, arena-is}
use Rattle.clause_arena.proofs.Changed.{kept-swapped, view-swapped}
use Rattle.clause_arena.proofs.arena.ClauseArena.swap.Goals as goal
use Rattle.clause_arena.proofs.arena.ClauseArena.swap.Goals.{After-swap, After-as_mut_slice-codes}

pub bounds-as_slice-c : goal.bounds-as_slice-c
bounds-as_slice-c c = omega (arith, (read c.self.inside.codes.items c.self.inside.spans.items c.self.inside.ids.items c.self.inside.order c.self.inside.spare c.self.inside.dead (vec_capacity c.self.inside.codes) c.self.invariant.0 c.args.self.now c.self.view_is c.args.c c.requires.live).inside, c.as_slice.ensures.len)

-- where the clause's literals begin
start_is : (c : After-as_mut_slice-codes) → (span_of c.as_slice.result.now c.args.c).start ≡ (span_of c.self.inside.spans.items c.args.c).start
start_is c = ap (λ (spans : List Span). (span_of spans c.args.c).start) c.as_slice.ensures.value

pub swap-requires-clause-a_in_bounds : goal.swap-requires-clause-a_in_bounds
swap-requires-clause-a_in_bounds c =
    let here = read c.self.inside.codes.items c.self.inside.spans.items c.self.inside.ids.items c.self.inside.order c.self.inside.spare c.self.inside.dead (vec_capacity c.self.inside.codes) c.self.invariant.0 c.args.self.now c.self.view_is c.args.c c.requires.live in
    omega (arith, start_is (goal.at.swap-requires-clause-a_in_bounds c).After-as_mut_slice-codes, here.within, here.count, c.requires.first, c.as_mut_slice-codes.ensures.len)

pub swap-requires-clause-b_in_bounds : goal.swap-requires-clause-b_in_bounds
swap-requires-clause-b_in_bounds c =
    let here = read c.self.inside.codes.items c.self.inside.spans.items c.self.inside.ids.items c.self.inside.order c.self.inside.spare c.self.inside.dead (vec_capacity c.self.inside.codes) c.self.invariant.0 c.args.self.now c.self.view_is c.args.c c.requires.live in
    omega (arith, start_is (goal.at.swap-requires-clause-b_in_bounds c).After-as_mut_slice-codes, here.within, here.count, c.requires.second, c.as_mut_slice-codes.ensures.len)

stands : (c : After-swap) → 1 ≤ times c.args.c (list_of c.self.inside.order 0)
stands c = (read c.self.inside.codes.items c.self.inside.spans.items c.self.inside.ids.items c.self.inside.order c.self.inside.spare c.self.inside.dead (vec_capacity c.self.inside.codes) c.self.invariant.0 c.args.self.now c.self.view_is c.args.c c.requires.live).stands

low : (c : After-swap) → c.args.i < (span_of c.self.inside.spans.items c.args.c).len
low c = let here = read c.self.inside.codes.items c.self.inside.spans.items c.self.inside.ids.items c.self.inside.order c.self.inside.spare c.self.inside.dead (vec_capacity c.self.inside.codes) c.self.invariant.0 c.args.self.now c.self.view_is c.args.c c.requires.live in omega (arith, here.count, c.requires.first)

high : (c : After-swap) → c.args.j < (span_of c.self.inside.spans.items c.args.c).len
high c = let here = read c.self.inside.codes.items c.self.inside.spans.items c.self.inside.ids.items c.self.inside.order c.self.inside.spare c.self.inside.dead (vec_capacity c.self.inside.codes) c.self.invariant.0 c.args.self.now c.self.view_is c.args.c c.requires.live in omega (arith, here.count, c.requires.second)

-- the numbers afterwards
codes_are : (c : After-swap) → (with_items c.self.inside.codes c.swap.new.self).items ≡ swap c.self.inside.codes.items ((span_of c.self.inside.spans.items c.args.c).start + c.args.i) ((span_of c.self.inside.spans.items c.args.c).start + c.args.j)
codes_are c =
    with_items_is c.self.inside.codes c.swap.new.self (omega (arith, c.swap.ensures.len, c.as_mut_slice-codes.ensures.len))
    ∙ c.swap.ensures.after
    ∙ ap (λ (s : ℕ). swap c.as_mut_slice-codes.result.now (s + c.args.i) (s + c.args.j)) (ap (λ (spans : List Span). (span_of spans c.args.c).start) c.as_slice.ensures.value)
    ∙ ap (λ (xs : List ℕ). swap xs ((span_of c.self.inside.spans.items c.args.c).start + c.args.i) ((span_of c.self.inside.spans.items c.args.c).start + c.args.j)) c.as_mut_slice-codes.ensures.value

kept : (c : After-swap) → IsKept (with_items c.self.inside.codes c.swap.new.self).items c.self.inside.spans.items c.self.inside.ids.items c.self.inside.order c.self.inside.spare c.self.inside.dead (vec_capacity c.self.inside.codes)
kept c =
    subst (λ (xs : List ℕ). IsKept xs c.self.inside.spans.items c.self.inside.ids.items c.self.inside.order c.self.inside.spare c.self.inside.dead (vec_capacity c.self.inside.codes)) (sym (codes_are c))
    (kept-swapped c.self.inside.codes.items c.self.inside.spans.items c.self.inside.ids.items c.self.inside.order c.self.inside.spare c.self.inside.dead (vec_capacity c.self.inside.codes) c.self.invariant.0 c.args.c c.args.i c.args.j (stands c) (low c) (high c))

pub invariant_of-self : goal.invariant_of-self
invariant_of-self c = (kept (goal.at.invariant_of-self c).After-swap, c.self.invariant.1)

pub returns-clause-clauses : goal.returns-clause-clauses
returns-clause-clauses c0 =
    let c = (goal.at.returns-clause-clauses c0).After-swap in
    ap (λ (xs : List ℕ). arena_of xs c.self.inside.spans.items c.self.inside.ids.items c.self.inside.order c.self.inside.spare c.self.inside.dead) (codes_are c)
    ∙ view-swapped c.self.inside.codes.items c.self.inside.spans.items c.self.inside.ids.items c.self.inside.order c.self.inside.spare c.self.inside.dead (vec_capacity c.self.inside.codes) c.self.invariant.0 c.args.c c.args.i c.args.j (stands c) (low c) (high c)
    ∙ ap (λ (a : Arena). swapped a c.args.c c.args.i c.args.j) c.self.view_is

pub returns-clause-arena : goal.returns-clause-arena
returns-clause-arena c0 =
    let c = (goal.at.returns-clause-arena c0).After-swap in
    arena-is (with_items c.self.inside.codes c.swap.new.self).items c.self.inside.spans.items c.self.inside.ids.items c.self.inside.order c.self.inside.spare c.self.inside.dead (vec_capacity c.self.inside.codes) (kept c)
