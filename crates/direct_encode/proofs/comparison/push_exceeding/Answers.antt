use Rattle.std.proofs.Common.{◌∷◌, [], ℤ, pos, ◌+ℤ◌, ◌∙◌}
use Rattle.order_ints.specs.declared.atom.Atom.{Atom}
use Rattle.order_ints.specs.Truth.{not_atom}
use Rattle.order_ints.specs.OrderLevels.{at_of}
use Rattle.direct_encode.proofs.Beside.{put, told, next_bits, next_small}
use Rattle.direct_encode.proofs.comparison.push_exceeding.Goals as goal

pub loop-value-preserved : goal.loop-value-preserved
loop-value-preserved c =
    let level : ℤ × Atom = (c.in-Some.value, c.in-Some.atom) in
    let before = c.loop-value.invariant in
    let small = next_small level _ _ c.in-Some.ensures.steps before.small in
    let exceeded = told c.args.a.now c.loop-value.walk.int.now (level.0 +ℤ pos 1) _ c.at-exceeded.result c.at-exceeded.ensures.atom before.same (next_bits level.0 small.0) in
    record {
      written = put (λ l. c.args.r ∷ not_atom l.1 ∷ at_of c.args.a.now (l.0 +ℤ pos 1) ∷ []) _ _ _ level _ _ _
          c.in_ok-push_clause.ensures (λ i. c.args.r ∷ c.not.ensures i ∷ exceeded i ∷ []) c.in-Some.ensures.steps before.written;
      small = small.1;
      same = c.at-exceeded.ensures.same ∙ before.same;
    }
