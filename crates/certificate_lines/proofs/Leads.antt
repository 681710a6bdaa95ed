-- The lines of a ledger and of a derivation lead on, in each text in which their steps do.
use Rattle.std.proofs.Common.{◌≡◌, ℕ, List, [], ◌∷◌, map, Result, Ok, Err, refl, sym, ap, ◌∙◌, subst}
use Rattle.ledger_text.specs.declared.line.Line.{Line}
use Rattle.ledger_text.specs.Steps.{step_text}
use Rattle.step_kernel.specs.declared.fault.StepFault.{StepFault}
use Rattle.step_kernel.specs.Kernel.{Kernel}
use Rattle.step_kernel.specs.Steps.{step, replay, replayed}
use Rattle.proof_check.specs.declared.fault.ProofFault.{ProofFault}
use Rattle.proof_check.specs.declared.line.ProofLine.{ProofLine}
use Rattle.proof_check.specs.Lines.{line_bytes}
use Rattle.proof_check.specs.Lrat.{Proof, take_line, take_lines, behind}
use Rattle.line_texts.specs.LineByLine.{Lead}
use Rattle.answer_document.specs.Valid.{AreReadableSteps, AreReadableLines}
use Rattle.certificate_lines.specs.CertificateLines.{IsStepLine, IsDerivedLine}

ok-same : {X E : Type 0} (x y : X) → ◌≡◌ {A = Result X E} (Ok x) (Ok y) → x ≡ y
ok-same x y e = cc

err-ok : {X E : Type 0} (x : X) (e : E) → ◌≡◌ {A = Result X E} (Err e) (Ok x) → ⊥
err-ok x e h = cc

replayed-err : (fault : StepFault) (lines : List Line) → replayed (Err fault) lines ≡ Err fault
replayed-err fault [] = refl
replayed-err fault (line ∷ lines) = refl

module _ {S : Type 0} (Next : S → List ℕ → S → Type 0) where
  -- where each step of a ledger is one of the text
  pub ledger-leads : (at : Kernel → S) → ((k next : Kernel) (line : List ℕ) → IsStepLine k line next → Next (at k) line (at next)) → (k last : Kernel) (ledger : List Line) → AreReadableSteps ledger
      → replay k ledger ≡ Ok last → Lead Next (at k) (map step_text ledger) (at last)
  ledger-leads at one k last [] readable e = ap at (ok-same k last e)
  ledger-leads at one k last (line ∷ ledger) readable e = by (step k line) refl e (λ mid. ledger-leads at one mid last ledger readable.1)
    where
      by : (r : Result Kernel StepFault) → step k line ≡ r → replayed r ledger ≡ Ok last → ((mid : Kernel) → replay mid ledger ≡ Ok last → Lead Next (at mid) (map step_text ledger) (at last))
          → Lead Next (at k) (map step_text (line ∷ ledger)) (at last)
      by (Ok mid) made f rest = (at mid, one k mid (step_text line) (record { entry = line; readable = readable.0; spelled = refl; made = made }), rest mid f)
      by (Err fault) made f rest = absurd (err-ok last fault (sym (replayed-err fault ledger) ∙ f))

  -- where each line of a derivation is one of the text
  pub derivation-leads : (at : Proof → S) → ((p next : Proof) (line : List ℕ) → IsDerivedLine p line next → Next (at p) line (at next)) → (p reached : Proof) (proof : List ProofLine) → AreReadableLines proof
      → take_lines p proof ≡ Ok reached → Lead Next (at p) (map line_bytes proof) (at reached)
  derivation-leads at one p reached [] readable e = ap at (ok-same p reached e)
  derivation-leads at one p reached (line ∷ proof) readable e = by (take_line p line) refl e (λ mid. derivation-leads at one mid reached proof readable.1)
    where
      by : (r : Result Proof ProofFault) → take_line p line ≡ r → behind r (λ q. take_lines q proof) ≡ Ok reached
          → ((mid : Proof) → take_lines mid proof ≡ Ok reached → Lead Next (at mid) (map line_bytes proof) (at reached)) → Lead Next (at p) (map line_bytes (line ∷ proof)) (at reached)
      by (Ok mid) taken f rest = (at mid, one p mid (line_bytes line) (record { entry = line; bytes = (readable.0, refl); continued = taken }), rest mid f)
      by (Err fault) taken f rest = absurd (err-ok reached fault f)
