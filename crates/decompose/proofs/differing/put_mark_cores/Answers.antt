use Rattle.std.proofs.Common.{ℤ, ◌∙◌, FitsSigned, rules}
use mir.Syntax.{w128}
use Rattle.std.proofs.lemmas.Int.{to_z-of_z}
use Rattle.order_ints.specs.declared.atom.Atom.{Atom}
use Rattle.decompose.proofs.DifferingSteps.{small-more, level-counted, mark-more}
use Rattle.decompose.proofs.differing.put_mark_cores.Goals as goal

pub loop-value-preserved : goal.loop-value-preserved
loop-value-preserved c =
    let level : ℤ × Atom = (c.in-Some.value, c.in-Some.field-0-1) in
    let before = c.loop-value.invariant in
    let fits : FitsSigned w128 c.in-Some.value = search rules in
    record {
      small = (small-more level _ _ c.in-Some.ensures.steps before.small).1;
      same = c.mark_core.ensures.same ∙ before.same;
      counted = level-counted level _ _ c.loop-value.var _ c.in-Some.ensures.steps before.counted;
      written = mark-more c.args.a.now c.loop-value.walk.int.now c.args.condition c.loop-value.var _ level _ _ c.in_ok-mark_core.field-0 _ _ _
          c.in-Some.ensures.steps c.in_ok-mark_core.ensures.core before.same (to_z-of_z w128 c.in-Some.value fits) (search rules) before.written;
    }
