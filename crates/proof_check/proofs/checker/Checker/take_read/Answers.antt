use Rattle.std.proofs.Common.{ℕ, List, sym, ap, ◌∙◌}
use Rattle.proof_check.specs.declared.line.ProofLine.TheVariants.{Delete}
use Rattle.proof_check.specs.declared.read.LineHead.{LineHead}
use Rattle.proof_check.specs.Lrat.{take_line}
use Rattle.proof_check.specs.Room.{line_in}
use Rattle.proof_check.proofs.Checks.{on-ok}
use Rattle.proof_check.proofs.checker.Checker.take_read.Goals as goal

pub returns-in-Deletion-clause-taken : goal.returns-in-Deletion-clause-taken
returns-in-Deletion-clause-taken c =
    on-ok c.take_deletion.result
    (λ t. ap (take_line c.args.self.now) (ap (λ (head : LineHead). line_in head c.args.room.now) c.in-Deletion.is
    ∙ ap (λ (ids : List ℕ). Delete c.in-Deletion.field-0 ids) (sym c.deref-in-Deletion.ensures.value)) ∙ t c.in-Deletion.field-0)
    c.take_deletion.ensures.taken
