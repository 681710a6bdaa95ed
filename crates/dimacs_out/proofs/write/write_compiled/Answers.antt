use Rattle.std.proofs.Common.{◌∙◌, ap, ◌++◌, ◌∷◌, map, codes, length}
use Rattle.bee_text.specs.Lines.{join_lines}
use Rattle.dimacs_out.specs.CompiledText.{entry_line, ledger_line, clause_line, numbers_line}
use Rattle.dimacs_out.proofs.Written.{text_written}
use Rattle.dimacs_out.proofs.write.write_compiled.Goals as goal

pub returns-clause-text : goal.returns-clause-text
returns-clause-text c =
    let x = c.args.text.now in
    let es = map entry_line x.entries in
    let ls = map ledger_line x.ledger in
    let zs = map clause_line x.cnf.clauses in
    let y = numbers_line x.cnf.vars (length x.cnf.clauses) in
    text_written c.push_bytes.new.out.items c.push_entries.new.out.items c.push_ledger.new.out.items c.push_numbers.new.out.items c.push_clauses.new.out.items es ls y zs
    (c.in_ok-push_entries.ensures ∙ ap (λ e. c.push_bytes.new.out.items ++ join_lines (map entry_line e)) c.as_slice.ensures)
    (c.in_ok-push_ledger.ensures ∙ ap (λ l. c.push_entries.new.out.items ++ join_lines (map ledger_line l)) c.as_slice-2.ensures) c.in_ok-push_numbers.ensures.line
    (c.in_ok-push_clauses.ensures ∙ ap (λ cs. c.push_numbers.new.out.items ++ join_lines (map clause_line cs)) c.as_slice-3.ensures)
    ∙ ap (λ h. h ++ join_lines (es ++ (ls ++ y ∷ zs))) (c.in_ok-push_bytes.ensures.ok ∙ ap (λ l. l ++ codes "c bee 1\n") c.new-out.ensures.items)
