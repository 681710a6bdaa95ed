use Rattle.std.proofs.lemmas.Int.{to_z-of_z}
use mir.Syntax.{w128}
use Rattle.core_forms.proofs.SumSteps.{put-more}
use Rattle.core_forms.proofs.fresh_sums.put_sums.Goals as goal

pub loop-other-preserved : goal.loop-other-preserved
loop-other-preserved c =
    put-more _ c.args.value c.in-Some.other c.added.result c.in-Some.field-0-1 c.loop-other.other-iterator c.next.new.self c.loop-other.sums.items c.push.new.self.items _
    c.in-Some.ensures.steps (to_z-of_z w128 c.args.value c.ranges.value) c.requires.value c.loop-other.invariant.0 c.added.ensures c.in_ok-push.ensures.items c.loop-other.invariant.1
