use Rattle.std.proofs.Common.{rules, ◌∷◌, FitsSigned, ◌∙◌}
use mir.Syntax.{w128}
use Rattle.std.proofs.lemmas.Int.{to_z-of_z}
use Rattle.order_ints.specs.Truth.{not_atom}
use Rattle.direct_encode.specs.Maxima.{all_at}
use Rattle.direct_encode.proofs.Beside.{put, told_all}
use Rattle.direct_encode.proofs.maxima.push_some_reaching.Goals as goal

pub loop-value-preserved : goal.loop-value-preserved
loop-value-preserved c =
    let v = c.in-Some.value in
    let fits : FitsSigned w128 v = search rules in
    let before = c.loop-value.invariant in
    let made = told_all c.args.ints.now _ v _ c.not.result _ _ c.in_ok-clause.ensures.atoms before.same (to_z-of_z w128 v fits) c.not.ensures in
    record {
      written = put (λ l. not_atom l.1 ∷ all_at c.args.ints.now l.0) _ _ _ (v, c.in-Some.atom) _ _ _
          c.in_ok-push_owned.ensures made c.in-Some.ensures.steps before.written;
      same = c.reaching_clause.ensures.same ∙ before.same;
    }
