use Rattle.std.proofs.Common.{ℕ, List, sym, ap, ◌∙◌}
use Rattle.proof_check.specs.declared.line.ProofLine.TheVariants.{Delete}
use Rattle.proof_check.specs.Lrat.{take_line}
use Rattle.proof_check.proofs.Checks.{on-ok}
use Rattle.proof_check.proofs.checker.Checker.take.Goals as goal

pub returns-in-Delete-clause-taken : goal.returns-in-Delete-clause-taken
returns-in-Delete-clause-taken c =
    on-ok c.take_deletion.result
    (λ t. ap (take_line c.args.self.now) (c.in-Delete.is ∙ ap (λ (ids : List ℕ). Delete c.in-Delete.at ids) (sym c.as_slice-in-Delete.ensures)) ∙ t c.in-Delete.at)
    c.take_deletion.ensures.taken
