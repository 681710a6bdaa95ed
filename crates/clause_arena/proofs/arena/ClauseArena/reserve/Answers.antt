use Rattle.std.proofs.Common.{◌≡◌, ◌∙◌, ◌+◌, ◌-◌, ◌++◌, ℕ, List, length, map, replicate, refl, ap, sym, subst, arith}
use Rattle.std.specs.List.{range_with_len}
use Rattle.std.specs.Vec.{vec_capacity}
use Rattle.clause_arena.specs.Clauses.{Arena, IsArena, no_clause}
use Rattle.clause_arena.specs.Layout.{IsKept, clause_of}
use Rattle.clause_arena.proofs.Lists.{length-ring}
use Rattle.clause_arena.proofs.Seen.{arena-is}
use Rattle.clause_arena.proofs.Changed.{kept-wider, view-wider, arena-as, marked-more}
use Rattle.clause_arena.proofs.arena.ClauseArena.reserve.Goals as goal
use Rattle.clause_arena.proofs.arena.ClauseArena.reserve.Goals.{After-len-2}

pub returns-then-more-len-clause-arena : goal.returns-then-more-len-clause-arena
returns-then-more-len-clause-arena c = subst IsArena c.self.view_is (arena-is c.self.inside.codes.items c.self.inside.spans.items c.self.inside.ids.items c.self.inside.order c.self.inside.spare c.self.inside.dead (vec_capacity c.self.inside.codes) c.self.invariant.0)

pub returns-in_err-make_room-clause-arena : goal.returns-in_err-make_room-clause-arena
returns-in_err-make_room-clause-arena c =
    subst IsArena (sym (arena-as c.self.inside.codes.items c.make_room.new.codes.items c.self.inside.spans.items c.self.inside.spans.items c.self.inside.ids.items c.self.inside.ids.items
    c.self.inside.order c.self.inside.order c.self.inside.spare c.self.inside.dead c.in_err-make_room.ensures.codes refl refl refl))
    (arena-is c.self.inside.codes.items c.self.inside.spans.items c.self.inside.ids.items c.self.inside.order c.self.inside.spare c.self.inside.dead (vec_capacity c.self.inside.codes) c.self.invariant.0)

pub returns-in_err-add_references-clause-arena : goal.returns-in_err-add_references-clause-arena
returns-in_err-add_references-clause-arena c =
    subst IsArena (sym (arena-as c.self.inside.codes.items c.make_room.new.codes.items c.self.inside.spans.items c.add_references.new.spans.items c.self.inside.ids.items c.add_references.new.ids.items
    c.self.inside.order c.add_references.new.order c.self.inside.spare c.self.inside.dead
    c.in_ok-make_room.ensures.codes c.in_err-add_references.ensures.spans c.in_err-add_references.ensures.ids c.in_err-add_references.ensures.order))
    (arena-is c.self.inside.codes.items c.self.inside.spans.items c.self.inside.ids.items c.self.inside.order c.self.inside.spare c.self.inside.dead (vec_capacity c.self.inside.codes) c.self.invariant.0)

pub overflow_add-self : goal.overflow_add-self
overflow_add-self c =
    omega (arith, c.self.invariant.0.others, length-ring c.self.inside.order 1 c.self.invariant.0.rings, c.self.invariant.0.nodes, c.if-more-len.false, c.len.ensures)

kept : (c : After-len-2) → IsKept c.make_room.new.codes.items c.add_references.new.spans.items c.add_references.new.ids.items c.add_references.new.order (c.min-most.result - c.len-2.result) (c.self.inside.dead + c.saturating_sub-more.result) (vec_capacity c.make_room.new.codes)
kept c =
    let same : length c.make_room.new.codes.items ≡ length c.self.inside.codes.items = ap (length {A = ℕ}) c.in_ok-make_room.ensures.codes in
    let small = c.in_ok-make_room.ensures.small in
    let room = c.in_ok-make_room.ensures.room in
    subst (λ (xs : List ℕ). IsKept xs c.add_references.new.spans.items c.add_references.new.ids.items c.add_references.new.order (c.min-most.result - c.len-2.result) (c.self.inside.dead + c.saturating_sub-more.result) (vec_capacity c.make_room.new.codes)) (sym c.in_ok-make_room.ensures.codes)
    (kept-wider c.self.inside.codes.items c.self.inside.spans.items c.self.inside.ids.items c.self.inside.order c.self.inside.spare c.self.inside.dead (vec_capacity c.self.inside.codes) c.self.invariant.0 c.add_references.new.spans.items c.add_references.new.ids.items c.add_references.new.order c.saturating_sub-more.result c.in_ok-add_references.ensures.added (c.min-most.result - c.len-2.result) (vec_capacity c.make_room.new.codes)
    (omega (arith, same, small, room, c.min-most.ensures, c.capacity.ensures, c.len-2.ensures))
    (omega (arith, same, small, room, c.min-most.ensures, c.capacity.ensures, c.len-2.ensures)))

pub invariant_of-self-2 : goal.invariant_of-self-2
invariant_of-self-2 c0 =
    let c = (goal.at.invariant_of-self-2 c0).After-len-2 in (
      kept c,
      marked-more c.self.inside.live.items c.add_references.new.marks.items c.self.inside.order c.add_references.new.order c.saturating_sub-more.result c.self.invariant.1 c.self.invariant.0.rings
          c.in_ok-add_references.ensures.marked c.in_ok-add_references.ensures.added.nodes c.in_ok-add_references.ensures.added.in_use,
    )

pub returns-clause-wider : goal.returns-clause-wider
returns-clause-wider c0 =
    let c = (goal.at.returns-clause-wider c0).After-len-2 in
    let old = c.self.view_is ∙ c.pack_for.ensures in
    let same : length c.make_room.new.codes.items ≡ length c.self.inside.codes.items = ap (length {A = ℕ}) c.in_ok-make_room.ensures.codes in
    let small = c.in_ok-make_room.ensures.small in
    let capacity = c.in_ok-make_room.ensures.capacity in
    let room = c.in_ok-make_room.ensures.room in
    record {
      more = c.saturating_sub-more.result;
      clauses =
          ap (λ (xs : List ℕ). map (clause_of xs c.add_references.new.spans.items c.add_references.new.ids.items c.add_references.new.order) (range_with_len 0 (length c.add_references.new.spans.items))) c.in_ok-make_room.ensures.codes
          ∙ view-wider c.self.inside.codes.items c.self.inside.spans.items c.self.inside.ids.items c.self.inside.order c.self.inside.spare c.self.inside.dead (vec_capacity c.self.inside.codes) c.self.invariant.0 c.add_references.new.spans.items c.add_references.new.ids.items c.add_references.new.order c.saturating_sub-more.result c.in_ok-add_references.ensures.added
          ∙ ap (λ (a : Arena). a.clauses ++ replicate c.saturating_sub-more.result no_clause) old;
      spare_lits = omega (arith, same, small, room, capacity, c.self.invariant.0.room, c.self.invariant.0.small, c.min-most.ensures, c.capacity.ensures, c.len-2.ensures, ap (λ (a : Arena). a.spare_lits) old);
      spare_clauses = omega (arith, ap (λ (a : Arena). a.spare_clauses) old);
    }

pub returns-clause-arena : goal.returns-clause-arena
returns-clause-arena c0 =
    let c = (goal.at.returns-clause-arena c0).After-len-2 in
    arena-is c.make_room.new.codes.items c.add_references.new.spans.items c.add_references.new.ids.items c.add_references.new.order (c.min-most.result - c.len-2.result) (c.self.inside.dead + c.saturating_sub-more.result) (vec_capacity c.make_room.new.codes) (kept c)
