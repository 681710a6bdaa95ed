use Rattle.std.proofs.Common.{◌≡◌, ◌∙◌, ◌≤◌, ℕ, List, length, take, ap, sym, subst, arith}
use Rattle.std.specs.Vec.{vec_capacity, with_items}
use Rattle.std.proofs.lemmas.List.{with_items_is}
use Rattle.index_ring.specs.Lists.{list_of}
use Rattle.clause_arena.specs.declared.codes.Span.{Span}
use Rattle.clause_arena.specs.Layout.{AreLaid}
use Rattle.clause_arena.specs.Sliding.{AreSlid}
use Rattle.clause_arena.proofs.Lists.{length-ring}
use Rattle.clause_arena.proofs.Changed.{kept-slid, view-slid}
use Rattle.clause_arena.proofs.arena.ClauseArena.pack.Goals as goal
use Rattle.clause_arena.proofs.arena.ClauseArena.pack.Goals.{After-truncate}

pub slide_down-end-requires-clause-count : goal.slide_down-end-requires-clause-count
slide_down-end-requires-clause-count c = omega (arith, length-ring c.self.inside.order 0 c.self.invariant.0.rings, c.self.invariant.0.nodes, c.as_mut_slice-spans.ensures.len)

spans_are : (c : After-truncate) → (with_items c.self.inside.spans c.slide_down-end.new.spans).items ≡ c.slide_down-end.new.spans
spans_are c = with_items_is c.self.inside.spans c.slide_down-end.new.spans (omega (arith, c.slide_down-end.auto.spans, c.as_mut_slice-spans.ensures.len))

slid : (c : After-truncate) → AreSlid c.self.inside.codes.items c.self.inside.spans.items c.slide_down-end.new.codes (with_items c.self.inside.spans c.slide_down-end.new.spans).items (list_of c.self.inside.order 0)
slid c =
    subst (λ (xs : List ℕ). AreSlid xs c.self.inside.spans.items c.slide_down-end.new.codes (with_items c.self.inside.spans c.slide_down-end.new.spans).items (list_of c.self.inside.order 0)) c.as_mut_slice.ensures.value
    (subst (λ (xs : List Span). AreSlid c.as_mut_slice.result.now xs c.slide_down-end.new.codes (with_items c.self.inside.spans c.slide_down-end.new.spans).items (list_of c.self.inside.order 0)) c.as_mut_slice-spans.ensures.value
    (subst (λ (xs : List Span). AreSlid c.as_mut_slice.result.now c.as_mut_slice-spans.result.now c.slide_down-end.new.codes xs (list_of c.self.inside.order 0)) (sym (spans_are c)) c.slide_down-end.ensures.slid))

laid : (c : After-truncate) → AreLaid (with_items c.self.inside.spans c.slide_down-end.new.spans).items 0 (list_of c.self.inside.order 0) c.slide_down-end.result
laid c = subst (λ (xs : List Span). AreLaid xs 0 (list_of c.self.inside.order 0) c.slide_down-end.result) (sym (spans_are c)) c.slide_down-end.ensures.laid

within : (c : After-truncate) → c.slide_down-end.result ≤ length c.self.inside.codes.items
within c = omega (arith, c.slide_down-end.ensures.within, ap (length {A = ℕ}) c.as_mut_slice.ensures.value)

cut_off : (c : After-truncate) → c.truncate.new.self.items ≡ take c.slide_down-end.result c.slide_down-end.new.codes
cut_off c =
    c.truncate.ensures.items
    ∙ ap (take c.slide_down-end.result) (with_items_is c.self.inside.codes c.slide_down-end.new.codes (omega (arith, c.slide_down-end.auto.codes, c.as_mut_slice.ensures.len)))

wider : (c : After-truncate) → vec_capacity c.self.inside.codes ≤ vec_capacity c.truncate.new.self
wider c = omega (arith, c.truncate.ensures.capacity)

pub invariant_of-self : goal.invariant_of-self
invariant_of-self c0 =
    let c = (goal.at.invariant_of-self c0).After-truncate in (
      kept-slid c.self.inside.codes.items c.self.inside.spans.items c.self.inside.ids.items c.self.inside.order c.self.inside.spare c.self.inside.dead (vec_capacity c.self.inside.codes) c.self.invariant.0 c.slide_down-end.new.codes c.truncate.new.self.items (with_items c.self.inside.spans c.slide_down-end.new.spans).items c.slide_down-end.result (vec_capacity c.truncate.new.self)
          (slid c) (laid c) (within c) (cut_off c) (wider c),
      c.self.invariant.1,
    )

pub returns : goal.returns
returns c0 =
    let c = (goal.at.returns c0).After-truncate in
    view-slid c.self.inside.codes.items c.self.inside.spans.items c.self.inside.ids.items c.self.inside.order c.self.inside.spare c.self.inside.dead (vec_capacity c.self.inside.codes) c.self.invariant.0 c.slide_down-end.new.codes c.truncate.new.self.items (with_items c.self.inside.spans c.slide_down-end.new.spans).items c.slide_down-end.result (vec_capacity c.truncate.new.self)
    (slid c) (laid c) (within c) (cut_off c) (wider c)
    ∙ c.self.view_is
