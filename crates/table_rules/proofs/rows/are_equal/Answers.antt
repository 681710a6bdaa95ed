use Rattle.std.proofs.Common.{◌^◌, length, sym, ◌∙◌, arith}
use Rattle.table_rules.proofs.RowLaws.{written, written-differ, differ-below}
use Rattle.table_rules.proofs.rows.are_equal.Goals as goal

pub returns-then-holds_in_row : goal.returns-then-holds_in_row
returns-then-holds_in_row c =
    let core = c.args.core.now in
    let vars = c.args.vars.now in
    let rows = c.loop-number in
    let met = written core vars rows.values c.write_row.new.values rows.number _ c.write_row.ensures rows.invariant.long c.holds_in_row.ensures.shape ∙ c.if-holds_in_row.true in
    let differ = written-differ vars rows.values c.write_row.new.values rows.number (c.args.a, c.args.b) _ c.write_row.ensures rows.invariant.long c.are_equal_in.ensures c.if-not-are_equal_in.true in
    sym (differ-below core vars (c.args.a, c.args.b) rows.number (2 ^ length vars) (omega (arith, c.row_count-number-end.ensures)) met differ)
