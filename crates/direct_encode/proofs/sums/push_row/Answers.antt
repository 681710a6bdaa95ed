use Rattle.std.proofs.Common.{◌+◌, ◌<◌, arith}
use Rattle.core_forms.specs.Shapes.{steps_of}
use Rattle.direct_encode.specs.Tables.{sum_pair}
use Rattle.direct_encode.proofs.TableLoops.{put_place}
use Rattle.direct_encode.proofs.sums.push_row.Goals as goal

pub loop-j-preserved : goal.loop-j-preserved
loop-j-preserved c =
    let b = c.args.b.now.int.now in
    let lt : c.loop-j.j < steps_of b + 1 = omega (arith, c.loop-j-test.true, c.len-j-end.ensures) in
    put_place (sum_pair c.args.a.now.int.now b c.args.c.now.int.now c.args.i) c.loop-j.j (steps_of b + 1) _ _ _ lt c.in_ok-push_pair.ensures c.loop-j.invariant
