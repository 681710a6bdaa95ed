use Rattle.std.proofs.Common.{◌∷◌, [], ℤ, pos, ◌+ℤ◌, ap, ◌∙◌}
use Rattle.order_ints.specs.declared.atom.Atom.{Atom}
use Rattle.order_ints.specs.Truth.{not_atom}
use Rattle.order_ints.specs.OrderLevels.{at_of}
use Rattle.order_ints.specs.Walk.{has_value}
use Rattle.order_ints.proofs.Wide.{small_bits}
use Rattle.direct_encode.proofs.Beside.{put_passing, told, told_value, next_bits, next_small}
use Rattle.direct_encode.proofs.comparison.push_differing.Goals as goal

pub loop-value-preserved-in-Continue-1 : goal.loop-value-preserved-in-Continue-1
loop-value-preserved-in-Continue-1 c =
    let level : ℤ × Atom = (c.in-Some.value, c.in-Some.a_reached) in
    let v = level.0 in
    let a = c.args.a.now in
    let b = c.args.b.now in
    let before = c.loop-value.invariant in
    let small = next_small level _ _ c.in-Some.ensures.steps before.small in
    let here = small_bits v small.0 in
    let next = next_bits v small.0 in
    let had = c.has.ensures.same ∙ before.same_b in
    let was = c.at-b_reached.ensures.same ∙ had in
    let passes = told_value b c.loop-value.walk_b.int.now v _ c.has.result c.has.ensures.value before.same_b here c.if-has.true in
    let b_reached = told b _ v _ c.at-b_reached.result c.at-b_reached.ensures.atom had here in
    let a_exceeded = told a _ (v +ℤ pos 1) _ c.at-a_exceeded.result c.at-a_exceeded.ensures.atom before.same_a next in
    let b_exceeded = told b _ (v +ℤ pos 1) _ c.at-b_exceeded.result c.at-b_exceeded.ensures.atom was next in
    record {
      written = put_passing (has_value b)
          (λ l. c.args.r ∷ not_atom l.1 ∷ at_of a (l.0 +ℤ pos 1) ∷ not_atom (at_of b l.0) ∷ at_of b (l.0 +ℤ pos 1) ∷ [])
          _ _ _ level _ _ _ passes c.in_ok-push_clause.ensures
          (λ i. c.args.r ∷ c.not.ensures i ∷ a_exceeded i ∷ (c.not-then-has.ensures ∙ ap not_atom b_reached) i ∷ b_exceeded i ∷ [])
          c.in-Some.ensures.steps before.written;
      small = small.1;
      same_a = c.at-a_exceeded.ensures.same ∙ before.same_a;
      same_b = c.at-b_exceeded.ensures.same ∙ was;
    }
