use Rattle.std.proofs.Common.{◌∷◌, map, codes}
use Rattle.ledger_text.specs.Steps.{step_text}
use Rattle.proof_check.specs.Lines.{line_bytes}
use Rattle.conflict_text.specs.ConflictLines.{statement_line}
use Rattle.conflict_text.proofs.Written.{three}
use Rattle.conflict_text.proofs.writing.push_certificate.Goals as goal

pub returns : goal.returns
returns c =
    three c.args.out.now.items c.push_statements.new.out.items c.push_steps.new.out.items _ (map statement_line c.args.statements.now)
    (codes "ledger" ∷ map step_text c.args.ledger.now) (codes "proof" ∷ map line_bytes c.args.proof.now)
    c.in_ok-push_statements.ensures c.in_ok-push_steps.ensures c.in_ok-push_derivation.ensures
