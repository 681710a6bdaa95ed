use Rattle.std.proofs.Common.{◌≡◌, ◌∙◌, ◌+◌, ◌<◌, ℕ, List, length, set, drop, Option, Some, sym, subst, arith}
use Rattle.index_ring.specs.Lists.{list_of, first_in}
use Rattle.clause_arena.specs.declared.codes.Span.{Span}
use Rattle.clause_arena.specs.Codes.{span_of}
use Rattle.clause_arena.proofs.Lists.{not_free, once-there}
use Rattle.clause_arena.proofs.Slid.{Slides, slides-as, slides-more, slides-none, hand-within, hand-stands, hand-inside, hand-next}
use Rattle.clause_arena.proofs.sliding.slide_down.Goals as goal
use Rattle.clause_arena.proofs.sliding.slide_down.Goals.{in-Some, in_default}

pub bounds-spans-c : goal.bounds-spans-c
bounds-spans-c c =
    hand-inside c.args.order.now c.loop-k.k c.in-Some.c (length c.loop-k.spans) c.requires.rings (omega (arith, c.requires.inside, c.loop-k.auto.spans)) (sym c.in-Some.is ∙ c.loop-k.invariant.at)

pub bounds-spans-c-in-Some : goal.bounds-spans-c-in-Some
bounds-spans-c-in-Some c =
    hand-inside c.args.order.now c.loop-k.k c.in-Some.c (length c.loop-k.spans) c.requires.rings (omega (arith, c.requires.inside, c.loop-k.auto.spans)) (sym c.in-Some.is ∙ c.loop-k.invariant.at)

pub bounds-spans-c-in-Some-2 : goal.bounds-spans-c-in-Some-2
bounds-spans-c-in-Some-2 c =
    hand-inside c.args.order.now c.loop-k.k c.in-Some.c (length c.loop-k.spans) c.requires.rings (omega (arith, c.requires.inside, c.loop-k.auto.spans)) (sym c.in-Some.is ∙ c.loop-k.invariant.at)

-- the invariant, where a clause is at hand
at_clause : (codes0 : List ℕ) (spans0 : List Span) (list codes : List ℕ) (spans : List Span) (to k : ℕ) (next : Option ℕ) (v : ℕ) → next ≡ Some v → Slides codes0 spans0 list codes spans to next k → Slides codes0 spans0 list codes spans to (Some v) k
at_clause codes0 spans0 list codes spans to k next v is h = subst (λ (n : Option ℕ). Slides codes0 spans0 list codes spans to n k) is h

pub move_down-requires-clause-order : goal.move_down-requires-clause-order
move_down-requires-clause-order c =
    (hand-within c.args.codes.now c.args.spans.now (list_of c.args.order.now 0) c.loop-k.codes c.loop-k.spans c.loop-k.to c.loop-k.k c.in-Some.c
    (at_clause c.args.codes.now c.args.spans.now (list_of c.args.order.now 0) c.loop-k.codes c.loop-k.spans c.loop-k.to c.loop-k.k c.loop-k.next c.in-Some.c c.in-Some.is c.loop-k.invariant)).0

pub move_down-requires-clause-inside : goal.move_down-requires-clause-inside
move_down-requires-clause-inside c =
    omega (
      arith,
      c.loop-k.auto.codes,
      (hand-within c.args.codes.now c.args.spans.now (list_of c.args.order.now 0) c.loop-k.codes c.loop-k.spans c.loop-k.to c.loop-k.k c.in-Some.c
          (at_clause c.args.codes.now c.args.spans.now (list_of c.args.order.now 0) c.loop-k.codes c.loop-k.spans c.loop-k.to c.loop-k.k c.loop-k.next c.in-Some.c c.in-Some.is c.loop-k.invariant)).1,
    )

pub overflow_add-to : goal.overflow_add-to
overflow_add-to c =
    let within = hand-within c.args.codes.now c.args.spans.now (list_of c.args.order.now 0) c.loop-k.codes c.loop-k.spans c.loop-k.to c.loop-k.k c.in-Some.c
    (at_clause c.args.codes.now c.args.spans.now (list_of c.args.order.now 0) c.loop-k.codes c.loop-k.spans c.loop-k.to c.loop-k.k c.loop-k.next c.in-Some.c c.in-Some.is c.loop-k.invariant) in
    omega (arith, within.0, within.1, c.requires.small)

pub after-next-requires : goal.after-next-requires
after-next-requires c =
    not_free c.args.order.now 0 c.in-Some.c (hand-stands c.args.order.now c.loop-k.k c.in-Some.c (sym c.in-Some.is ∙ c.loop-k.invariant.at))

pub loop-k-preserved : goal.loop-k-preserved
loop-k-preserved c = elim c.match-next.branch [
  | in-Some w ↦
      let codes0 = c.args.codes.now in
      let spans0 = c.args.spans.now in
      let order = c.args.order.now in
      let list = list_of order 0 in
      let v = w.in-Some.c in
      let here : Some v ≡ first_in (drop c.loop-k.k list) = sym w.in-Some.is ∙ c.loop-k.invariant.at in
      let inside : v < length spans0 = hand-inside order c.loop-k.k v (length spans0) c.requires.rings c.requires.inside here in
      slides-as codes0 spans0 list w.move_down.new.codes c.match-next.codes
      (set c.loop-k.spans v (record { start = c.loop-k.to; len = (span_of c.loop-k.spans v).len })) c.match-next.spans
      (c.loop-k.to + (span_of c.loop-k.spans v).len) c.match-next.to (c.loop-k.k + 1) w.after-next.result c.match-next.next
      w.codes-is w.spans-is w.to-is w.next-is
      (slides-more codes0 spans0 list c.loop-k.codes w.move_down.new.codes c.loop-k.spans c.loop-k.to c.loop-k.k v w.after-next.result
      (at_clause codes0 spans0 list c.loop-k.codes c.loop-k.spans c.loop-k.to c.loop-k.k c.loop-k.next v w.in-Some.is c.loop-k.invariant)
      (once-there order 0 v c.requires.rings) inside w.move_down.ensures
      (w.after-next.ensures.node 0 (hand-stands order c.loop-k.k v here) ∙ hand-next order c.loop-k.k v c.requires.rings here))
  | in_default w ↦
      slides-as c.args.codes.now c.args.spans.now (list_of c.args.order.now 0) c.loop-k.codes c.match-next.codes c.loop-k.spans c.match-next.spans
      c.loop-k.to c.match-next.to (c.loop-k.k + 1) c.loop-k.next c.match-next.next
      w.codes-is w.spans-is w.to-is w.next-is
      (slides-none c.args.codes.now c.args.spans.now (list_of c.args.order.now 0) c.loop-k.codes c.loop-k.spans c.loop-k.to c.loop-k.k c.loop-k.next w.in_default.is c.loop-k.invariant)
]
