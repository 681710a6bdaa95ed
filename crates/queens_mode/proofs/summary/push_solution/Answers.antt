use Rattle.std.proofs.Common.{◌++◌, ap, ◌∙◌, map, codes}
use Rattle.bee_text.specs.Lines.{join_lines}
use Rattle.ledger_text.specs.Steps.{step_text}
use Rattle.queens_mode.specs.Summary.{values_of, columns_line}
use Rattle.queens_mode.proofs.Written.{solution-written}
use Rattle.queens_mode.proofs.summary.push_solution.Goals as goal

pub returns : goal.returns
returns c =
    let d = c.args.document.now in
    solution-written c.args.out.now.items c.push_columns.new.out.items c.end_line.new.out.items c.push_bytes.new.out.items c.push_ledger.new.out.items c.push_bytes-2.new.out.items
    (columns_line (values_of d.assignment) c.args.size) (codes "ledger") (codes "end") (map step_text d.ledger)
    (c.in_ok-push_columns.ensures ∙ ap (λ vs. c.args.out.now.items ++ columns_line vs c.args.size) c.values_of.ensures) c.in_ok-end_line.ensures.ok c.in_ok-push_bytes.ensures.ok
    (c.in_ok-push_ledger.ensures ∙ ap (λ l. c.push_bytes.new.out.items ++ join_lines (map step_text l)) c.as_slice.ensures) c.in_ok-push_bytes-2.ensures.ok
