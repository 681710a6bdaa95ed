use Rattle.std.proofs.Common.{sym, subst}
use Rattle.dimacs_out.specs.declared.text.CnfText.{CnfText}
use Rattle.line_texts.specs.LineByLine.{IsWhole}
use Rattle.line_texts.specs.Ends.{MissingAt}
use Rattle.dimacs_read.specs.TextLines.{IsTextOf}
use Rattle.dimacs_read.specs.TextSteps.{Draft, NextLine, IsComplete}
use Rattle.dimacs_read.proofs.TextRead.{whole_text, text_end_fails}
use Rattle.dimacs_read.proofs.compiled.read_text.Goals as goal

pub returns-in-Whole-clause-read : goal.returns-in-Whole-clause-read
returns-in-Whole-clause-read c =
    let P : Draft → Type 0 = λ d. IsWhole NextLine IsComplete d c.args.text.now c.read_lines.new.taker in
    let Q : CnfText → Type 0 = λ x. IsTextOf x c.args.text.now in
    subst Q (sym c.finish.ensures) (whole_text c.args.text.now c.read_lines.new.taker (subst P c.new-draft.ensures (rw c.in-Whole.is at c.in_ok-read_lines.ensures)))

pub returns-clause-fault : goal.returns-clause-fault
returns-clause-fault c =
    let P : Draft → Type 0 = λ d. MissingAt NextLine IsComplete d c.args.text.now c.in-Missing.line in
    text_end_fails c.args.text.now c.in-Missing.line (subst P c.new-draft.ensures (rw c.in-Missing.is at c.in_ok-read_lines.ensures))
