use Rattle.std.proofs.Common.{◌∙◌}
use Rattle.std.proofs.lemmas.Int.{to_z-of_z}
use mir.Syntax.{w128}
use Rattle.decompose.proofs.SumSteps.{long-made}
use Rattle.decompose.proofs.sums.long_parts.Goals as goal

pub returns : goal.returns
returns c =
    let told = c.in_ok-sum.ensures in
    let second = rw (to_z-of_z w128 c.args.k c.ranges.k) at c.in_ok-second.ensures in
    long-made c.args.next_var c.args.a c.args.b c.in_ok-sum.sum c.args.others.items c.in_ok-others.others c.args.k c.in_ok-first.first c.in_ok-second.second c.from_vec.result c.in_ok-sum.fresh
    told.0 told.1 c.in_ok-others.ensures c.in_ok-first.ensures second (c.from_vec.ensures ∙ c.in_ok-vec.ensures.items)
