-- Ledgers and derivations, and one line more.
use Rattle.std.proofs.Common.{◌≡◌, ℕ, List, [], ◌∷◌, ◌++◌, Result, Ok, Err, refl, sym, ap, ◌∙◌}
use Rattle.order_ints.specs.declared.cnf.Cnf.{Cnf}
use Rattle.ledger_text.specs.declared.line.Line.{Line}
use Rattle.step_kernel.specs.declared.fault.StepFault.{StepFault}
use Rattle.step_kernel.specs.Kernel.{Kernel}
use Rattle.step_kernel.specs.Steps.{step, replay, replayed}
use Rattle.proof_check.specs.declared.fault.ProofFault.{ProofFault}
use Rattle.proof_check.specs.declared.line.ProofLine.{ProofLine}
use Rattle.proof_check.specs.Lrat.{Proof, proof_of, take_line, take_lines, behind}
use Rattle.certificate_lines.specs.CertificateLines.{IsStepLine, IsDerivedLine, IsLedger, IsDerivation}
use Rattle.certificate_lines.specs.Laws.{StepsLead, DerivationLeads}

ok-same : {X E : Type 0} (x y : X) → ◌≡◌ {A = Result X E} (Ok x) (Ok y) → x ≡ y
ok-same x y e = cc

err-ok : {X E : Type 0} (x : X) (e : E) → ◌≡◌ {A = Result X E} (Err e) (Ok x) → ⊥
err-ok x e h = cc

replayed-more : (r : Result Kernel StepFault) (lines : List Line) (line : Line) (k : Kernel) → replayed r lines ≡ Ok k → replayed r (lines ++ line ∷ []) ≡ step k line
replayed-more (Ok j) [] line k e = ap (λ x. step x line) (ok-same j k e)
replayed-more (Ok j) (l ∷ lines) line k e = replayed-more (step j l) lines line k e
replayed-more (Err f) [] line k e = absurd (err-ok k f e)
replayed-more (Err f) (l ∷ lines) line k e = absurd (err-ok k f e)

lines-more : (p : Proof) (lines : List ProofLine) (line : ProofLine) (q : Proof) → take_lines p lines ≡ Ok q → take_lines p (lines ++ line ∷ []) ≡ take_line q line
lines-more p [] line q e = ap (λ x. behind (take_line x line) (λ y. Ok y)) (ok-same p q e) ∙ alone (take_line q line)
  where
    alone : (r : Result Proof ProofFault) → behind r (λ y. Ok y) ≡ r
    alone (Ok y) = refl
    alone (Err f) = refl
lines-more p (l ∷ lines) line q e = by (take_line p l) e (λ x f. lines-more x lines line q f)
  where
    by : (r : Result Proof ProofFault) → behind r (λ x. take_lines x lines) ≡ Ok q → ((x : Proof) → take_lines x lines ≡ Ok q → take_lines x (lines ++ line ∷ []) ≡ take_line q line)
        → behind r (λ x. take_lines x (lines ++ line ∷ [])) ≡ take_line q line
    by (Ok x) f others = others x f
    by (Err f) g others = absurd (err-ok q f g)

pub steps-lead : StepsLead
steps-lead start k next line so_far more = record {
  ledger = so_far.ledger ++ more.entry ∷ [];
  leads = replayed-more (Ok start) so_far.ledger more.entry k so_far.leads ∙ more.made;
}

pub derivation-leads : DerivationLeads
derivation-leads cnf p next line so_far more = record {
  lines = so_far.lines ++ more.entry ∷ [];
  accepted = lines-more (proof_of cnf) so_far.lines more.entry p so_far.accepted ∙ more.continued;
}
