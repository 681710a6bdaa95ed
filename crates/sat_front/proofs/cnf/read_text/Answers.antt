use Rattle.std.proofs.Common.{subst}
use Rattle.line_texts.specs.Ends.{MissingAt}
use Rattle.line_texts.proofs.Fronts.{missing_first}
use Rattle.sat_front.specs.Closed.{closed}
use Rattle.sat_front.specs.CnfLines.{Draft, NextLine, IsComplete, nothing_read}
use Rattle.sat_front.proofs.cnf.read_text.Goals as goal

pub returns-in-Missing-clause-fault : goal.returns-in-Missing-clause-fault
returns-in-Missing-clause-fault c =
    let P : Draft → Type 0 = λ d. MissingAt NextLine IsComplete d (closed c.args.text.now) c.in-Missing.line in
    missing_first NextLine IsComplete nothing_read (closed c.args.text.now) c.in-Missing.line (subst P c.new-draft.ensures (rw c.in-Missing.is at c.in_ok-read_open_lines.ensures))
