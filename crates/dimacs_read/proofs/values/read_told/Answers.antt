use Rattle.std.proofs.Common.{subst}
use Rattle.line_texts.specs.Ends.{MissingAt}
use Rattle.line_texts.proofs.Fronts.{missing_first}
use Rattle.dimacs_read.specs.Values.{Told, NextValues, AreTold, nothing_told}
use Rattle.dimacs_read.proofs.values.read_told.Goals as goal

pub returns-in-Missing-clause-fault : goal.returns-in-Missing-clause-fault
returns-in-Missing-clause-fault c =
    let cnf = c.args.cnf.now in
    let P : Told → Type 0 = λ d. MissingAt (NextValues cnf) AreTold d c.args.text.now c.in-Missing.line in
    missing_first (NextValues cnf) AreTold (nothing_told cnf.vars) c.args.text.now c.in-Missing.line (subst P c.in_ok-draft.ensures (rw c.in-Missing.is at c.in_ok-read_lines.ensures))
