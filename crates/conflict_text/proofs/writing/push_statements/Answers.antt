use Rattle.std.proofs.Common.{◌++◌, map, refl, arith}
use Rattle.std.specs.Prelude.{slice_index_or}
use Rattle.bee_text.specs.Lines.{join_lines}
use Rattle.conflict_text.specs.ConflictLines.{statement_line}
use Rattle.conflict_text.proofs.Written.{statements-step}
use Rattle.conflict_text.proofs.writing.push_statements.Goals as goal

pub loop-number-preserved : goal.loop-number-preserved
loop-number-preserved c =
    let ns = c.args.statements.now in
    statements-step c.loop-number.out.items c.push_numbered.new.out.items (c.args.out.now.items ++ join_lines (map statement_line ns)) ns c.loop-number.number-index
    (slice_index_or ns c.loop-number.number-index 0) (omega (arith, c.loop-number-test.true)) refl c.in_ok-push_numbered.ensures c.loop-number.invariant
