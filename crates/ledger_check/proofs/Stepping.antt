-- What is known of a document goes on with each line that is the next.
use Rattle.std.proofs.Common.{◌≡◌, ℕ, ◌+◌, Bool, true, false, List, [], ◌∷◌, ◌++◌, codes, append_assoc, Option, None, Some, Result, Ok, Err, refl, sym, ap, ◌∙◌}
use Rattle.std.proofs.lemmas.List.{map-append}
use Rattle.ledger_text.specs.declared.line.Line.{Line}
use Rattle.ledger_text.specs.Steps.{step_text, IsReadableStep}
use Rattle.step_kernel.specs.declared.fault.StepFault.{StepFault}
use Rattle.step_kernel.specs.Kernel.{Kernel}
use Rattle.step_kernel.specs.Steps.{step, replayed}
use Rattle.proof_check.specs.declared.line.ProofLine.{ProofLine}
use Rattle.proof_check.specs.declared.fault.ProofFault.{ProofFault}
use Rattle.proof_check.specs.Lines.{line_bytes, IsReadable}
use Rattle.proof_check.specs.Lrat.{Proof, take_line, take_lines, behind}
use Rattle.answer_document.specs.Valid.{AreReadableSteps, AreReadableLines}
use Rattle.ledger_check.specs.declared.fault.Why.{Why}
use Rattle.ledger_check.specs.Items.{Standing}
use Rattle.ledger_check.specs.Tests.{when, unless, with_kernel, with_first, with_second}
use Rattle.ledger_check.specs.Fronts.{ledger_lines, proof_lines, more_lines}

ok-same : {X E : Type 0} (x y : X) → ◌≡◌ {A = Result X E} (Ok x) (Ok y) → x ≡ y
ok-same x y e = cc

err-ok : {X E : Type 0} (x : X) (e : E) → ◌≡◌ {A = Result X E} (Err e) (Ok x) → ⊥
err-ok x e h = cc

-- a test that is passed
pub when-ok : (holds : Bool) (w : Why) (s t : Standing) → when holds w s ≡ Ok t → (holds ≡ true) × (s ≡ t)
when-ok true w s t e = (refl, ok-same s t e)
when-ok false w s t e = absurd (err-ok t w e)

pub unless-ok : (fault : Option Why) (s t : Standing) → unless fault s ≡ Ok t → (fault ≡ None) × (s ≡ t)
unless-ok None s t e = (refl, ok-same s t e)
unless-ok (Some w) s t e = absurd (err-ok t w e)

pub kernel-ok : (s t : Standing) (r : Result Kernel StepFault) → with_kernel s r ≡ Ok t → (k : Kernel) × (r ≡ Ok k) × (record s { kernel = k } ≡ t)
kernel-ok s t (Ok k) e = (k, refl, ok-same (record s { kernel = k }) t e)
kernel-ok s t (Err f) e = absurd (err-ok t _ e)

pub first-ok : (s t : Standing) (r : Result Proof ProofFault) → with_first s r ≡ Ok t → (p : Proof) × (r ≡ Ok p) × (record s { first = Some p } ≡ t)
first-ok s t (Ok p) e = (p, refl, ok-same (record s { first = Some p }) t e)
first-ok s t (Err f) e = absurd (err-ok t _ e)

pub second-ok : (s t : Standing) (r : Result Proof ProofFault) → with_second s r ≡ Ok t → (p : Proof) × (r ≡ Ok p) × (record s { second = Some p } ≡ t)
second-ok s t (Ok p) e = (p, refl, ok-same (record s { second = Some p }) t e)
second-ok s t (Err f) e = absurd (err-ok t _ e)

-- a step more behind a ledger
pub replayed-more : (r : Result Kernel StepFault) (lines : List Line) (line : Line) (k : Kernel) → replayed r lines ≡ Ok k → replayed r (lines ++ line ∷ []) ≡ step k line
replayed-more (Ok j) [] line k e = ap (λ x. step x line) (ok-same j k e)
replayed-more (Ok j) (l ∷ lines) line k e = replayed-more (step j l) lines line k e
replayed-more (Err f) [] line k e = absurd (err-ok k f e)
replayed-more (Err f) (l ∷ lines) line k e = absurd (err-ok k f e)

-- and a line more behind a derivation
pub lines-more : (p : Proof) (lines : List ProofLine) (line : ProofLine) (q : Proof) → take_lines p lines ≡ Ok q → take_lines p (lines ++ line ∷ []) ≡ take_line q line
lines-more p [] line q e = ap (λ x. behind (take_line x line) (λ y. Ok y)) (ok-same p q e) ∙ alone (take_line q line)
  where
    alone : (r : Result Proof ProofFault) → behind r (λ y. Ok y) ≡ r
    alone (Ok y) = refl
    alone (Err f) = refl
lines-more p (l ∷ lines) line q e = by (take_line p l) e (λ x f. lines-more x lines line q f)
  where
    by : (r : Result Proof ProofFault) → behind r (λ x. take_lines x lines) ≡ Ok q → ((x : Proof) → take_lines x lines ≡ Ok q → take_lines x (lines ++ line ∷ []) ≡ take_line q line)
        → behind r (λ x. take_lines x (lines ++ line ∷ [])) ≡ take_line q line
    by (Ok x) f others = others x f
    by (Err f) g others = absurd (err-ok q f g)

pub steps-more : (ledger : List Line) (line : Line) → AreReadableSteps ledger → IsReadableStep line → AreReadableSteps (ledger ++ line ∷ [])
steps-more [] line h k = (k, tt)
steps-more (l ∷ ledger) line h k = (h.0, steps-more ledger line h.1 k)

pub readable-more : (proof : List ProofLine) (line : ProofLine) → AreReadableLines proof → IsReadable line → AreReadableLines (proof ++ line ∷ [])
readable-more [] line h k = (k, tt)
readable-more (l ∷ proof) line h k = (h.0, readable-more proof line h.1 k)

-- The lines, one more at their end.

pub ledger-longer : (head : List (List ℕ)) (ledger : List Line) (line : Line) → (head ++ ledger_lines ledger) ++ step_text line ∷ [] ≡ head ++ ledger_lines (ledger ++ line ∷ [])
ledger-longer head ledger line =
    append_assoc head (ledger_lines ledger) (step_text line ∷ []) ∙ ap (λ x. head ++ codes "ledger" ∷ x) (sym (map-append step_text ledger (line ∷ [])))

pub proof-longer : (head front : List (List ℕ)) (proof : List ProofLine) (line : ProofLine) → (head ++ (front ++ proof_lines proof)) ++ line_bytes line ∷ [] ≡ head ++ (front ++ proof_lines (proof ++ line ∷ []))
proof-longer head front proof line =
    append_assoc head (front ++ proof_lines proof) (line_bytes line ∷ [])
    ∙ ap (λ x. head ++ x) (append_assoc front (proof_lines proof) (line_bytes line ∷ []) ∙ ap (λ x. front ++ codes "proof" ∷ x) (sym (map-append line_bytes proof (line ∷ []))))

pub more-longer : (head front middle : List (List ℕ)) (more : List ProofLine) (line : ProofLine)
    → (head ++ (front ++ (middle ++ more_lines more))) ++ line_bytes line ∷ [] ≡ head ++ (front ++ (middle ++ more_lines (more ++ line ∷ [])))
more-longer head front middle more line =
    append_assoc head (front ++ (middle ++ more_lines more)) (line_bytes line ∷ [])
    ∙ ap (λ x. head ++ x) (append_assoc front (middle ++ more_lines more) (line_bytes line ∷ [])
    ∙ ap (λ x. front ++ x) (append_assoc middle (more_lines more) (line_bytes line ∷ []) ∙ ap (λ x. middle ++ codes "second" ∷ x) (sym (map-append line_bytes more (line ∷ [])))))
