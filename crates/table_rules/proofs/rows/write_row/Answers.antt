use Rattle.std.proofs.Common.{arith}
use Rattle.table_rules.proofs.RowLaws.{row-step}
use Rattle.table_rules.proofs.rows.write_row.Goals as goal

pub loop-value-preserved : goal.loop-value-preserved
loop-value-preserved c =
    row-step c.loop-value.values c.loop-value.value-index c.loop-value.rest c.args.number (omega arith) c.loop-value.invariant
