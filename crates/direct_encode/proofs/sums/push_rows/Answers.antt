use Rattle.std.proofs.Common.{◌+◌, ◌<◌, arith}
use Rattle.core_forms.specs.Shapes.{steps_of}
use Rattle.direct_encode.specs.Tables.{row_clauses, sum_pair}
use Rattle.direct_encode.proofs.TableLoops.{put_place}
use Rattle.direct_encode.proofs.sums.push_rows.Goals as goal

pub loop-i-preserved : goal.loop-i-preserved
loop-i-preserved c =
    let a = c.args.a.now.int.now in
    let b = c.args.b.now.int.now in
    let lt : c.loop-i.i < steps_of a + 1 = omega (arith, c.loop-i-test.true, c.len-i-end.ensures) in
    put_place (row_clauses (sum_pair a b c.args.c.now.int.now) b) c.loop-i.i (steps_of a + 1) _ _ _ lt c.in_ok-push_row.ensures c.loop-i.invariant
