use Rattle.std.proofs.Common.{rules, ◌∷◌, [], FitsSigned, ◌∙◌}
use mir.Syntax.{w128}
use Rattle.std.proofs.lemmas.Int.{to_z-of_z}
use Rattle.order_ints.specs.Truth.{not_atom}
use Rattle.order_ints.specs.OrderLevels.{at_of}
use Rattle.direct_encode.proofs.Beside.{put, told}
use Rattle.direct_encode.proofs.maxima.push_at_most.Goals as goal

pub loop-value-preserved : goal.loop-value-preserved
loop-value-preserved c =
    let v = c.in-Some.value in
    let fits : FitsSigned w128 v = search rules in
    let before = c.loop-value.invariant in
    let reached = told c.args.c.now c.loop-value.walk.int.now v _ c.at.result c.at.ensures.atom before.same (to_z-of_z w128 v fits) in
    record {
      written = put (λ l. not_atom l.1 ∷ at_of c.args.c.now l.0 ∷ []) _ _ _ (v, c.in-Some.atom) _ _ _
          c.in_ok-push_clause.ensures (λ i. c.not.ensures i ∷ reached i ∷ []) c.in-Some.ensures.steps before.written;
      same = c.at.ensures.same ∙ before.same;
    }
