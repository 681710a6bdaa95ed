-- A line leads to one standing.
use Rattle.std.proofs.Common.{◌≡◌, ◌⊎◌, inl, inr, ℕ, zero, suc, ◌≤◌, List, [], ◌∷◌, ◌++◌, codes, length, Option, Some, None, sym, ap, subst, ◌∙◌, arith}
use Rattle.std.specs.Prelude.{slice_get, ℤ}
use Rattle.model_meaning.specs.declared.model.Decl.{Decl}
use Rattle.model_meaning.specs.Limits.{DeclsInLimit}
use Rattle.step_kernel.specs.Kernel.{Kernel}
use Rattle.step_kernel.specs.CnfOf.{cnf_of}
use Rattle.proof_check.specs.Lines.{line_bytes}
use Rattle.proof_check.specs.Lrat.{Proof, proof_of}
use Rattle.certificate_lines.specs.CertificateLines.{IsStepLine, IsDerivedLine, IsValueLine}
use Rattle.certificate_lines.proofs.NextValue.{limit-at}
use Rattle.certificate_lines.proofs.LineLaws.{one-value, one-step, one-derivation, no-step}
use Rattle.answer_document.proofs.ProofLinesTell.{line-begins}
use Rattle.conflict_text.specs.declared.verdict.CoreVerdict.{CoreVerdict}
use Rattle.conflict_text.specs.declared.part.Part.{Part}
use Rattle.conflict_text.specs.declared.part.Part.TheVariants as part
use Rattle.conflict_text.specs.ConflictLines.{Standing, IsVerdict, IsNamed, IsLedgerBegin, IsStep, IsProofBegin, IsDerived, IsValue, IsMet, Continues, GoesOn, NextIn, behind_verdict, next_without}
use Rattle.conflict_text.specs.ConflictSays.{OneNext}
use Rattle.conflict_text.proofs.Words.{first_byte, verdict-tells, number-tells, statement-no-ledger}

pub some-same : {A : Type 0} (x y : A) (o : Option A) → o ≡ Some x → o ≡ Some y → x ≡ y
some-same x y o p q = cc

-- a line of a derivation begins with a digit
pub derived-letter : (p next : Proof) (line : List ℕ) → IsDerivedLine p line next → 58 ≤ first_byte line → ⊥
derived-letter p next line h letter =
    let same : first_byte line ≡ first_byte (line_bytes h.entry) = ap first_byte h.bytes.1 in
    let digit = line-begins h.entry h.bytes.0 in
    omega (arith, same, letter, digit)

pub continues-letter : (s t : Standing) (o : Option ℕ) (line : List ℕ) → Continues s o line t → 58 ≤ first_byte line
continues-letter s t (Some n) line h = rw h.0 (omega arith)
continues-letter s t None line h = rw h.0 (omega arith)

continues-one : (s t u : Standing) (o : Option ℕ) (line : List ℕ) → Continues s o line t → Continues s o line u → t ≡ u
continues-one s t u (Some n) line p q = p.1 ∙ sym q.1
continues-one s t u None line p q = p.1 ∙ sym q.1

pub no-turn : (ds : List Decl) (i : ℕ) (d : Decl) → slice_get ds i ≡ Some d → i ≡ length ds → ⊥
no-turn [] i d e l = cc
no-turn (x ∷ ds) zero d e l = omega (arith, l)
no-turn (x ∷ ds) (suc i) d e l = no-turn ds i d e (omega (arith, l))

module _ (s t u : Standing) (line : List ℕ) (limits : DeclsInLimit s.model.decls) where
  verdict-one : IsVerdict s line t → IsVerdict s line u → t ≡ u
  verdict-one p q =
      let same = verdict-tells p.verdict q.verdict p.fits q.fits (sym p.spelled ∙ q.spelled) in
      p.behind ∙ (ap (λ (v : CoreVerdict). record s { part = behind_verdict v; verdict = v }) same ∙ sym q.behind)

  named-one : IsNamed s line t → IsNamed s line u → t ≡ u
  named-one p q =
      let same = number-tells (codes "statement ") p.number q.number p.small q.small (sym p.spelled ∙ q.spelled) in
      p.behind ∙ (ap (λ (n : ℕ). record s { conflict = s.conflict ++ n ∷ []; now = n }) same ∙ sym q.behind)

  statements-one : IsNamed s line t ⊎ IsLedgerBegin s line t → IsNamed s line u ⊎ IsLedgerBegin s line u → t ≡ u
  statements-one (inl p) (inl q) = named-one p q
  statements-one (inl p) (inr q) = statement-no-ledger p.number (sym p.spelled ∙ q.spelled)
  statements-one (inr p) (inl q) = statement-no-ledger q.number (sym q.spelled ∙ p.spelled)
  statements-one (inr p) (inr q) = p.behind ∙ sym q.behind

  no-step-here : (p : IsStep s line t) (q : IsProofBegin s line u) → t ≡ u
  no-step-here p q = absurd (no-step p.now p.next (subst (λ (l : List ℕ). IsStepLine p.now l p.next) q.spelled p.step))

  no-step-there : (p : IsProofBegin s line t) (q : IsStep s line u) → t ≡ u
  no-step-there p q = absurd (no-step q.now q.next (subst (λ (l : List ℕ). IsStepLine q.now l q.next) p.spelled q.step))

  ledger-one : IsStep s line t ⊎ IsProofBegin s line t → IsStep s line u ⊎ IsProofBegin s line u → t ≡ u
  ledger-one (inl p) (inl q) =
      let at : q.now ≡ p.now = some-same q.now p.now s.kernel q.at p.at in
      let same = one-step p.now p.next q.next line p.step (subst (λ (k : Kernel). IsStepLine k line q.next) at q.step) in
      p.behind ∙ (ap (λ (k : Kernel). record s { kernel = Some k }) same ∙ sym q.behind)
  ledger-one (inl p) (inr q) = no-step-here p q
  ledger-one (inr p) (inl q) = no-step-there p q
  ledger-one (inr p) (inr q) =
      let same = some-same p.last q.last s.kernel p.at q.at in
      p.behind ∙ (ap (λ (k : Kernel). record s { part = part.Proof; proof = Some (proof_of (cnf_of k)) }) same ∙ sym q.behind)

  derived-one : {P Q : Type 0} → IsDerived s line t ⊎ (P × GoesOn s line t) → IsDerived s line u ⊎ (Q × GoesOn s line u) → t ≡ u
  derived-one (inl p) (inl q) =
      let at : q.now ≡ p.now = some-same q.now p.now s.proof q.at p.at in
      let same = one-derivation p.now p.next q.next line p.derived (subst (λ (k : Proof). IsDerivedLine k line q.next) at q.derived) in
      p.behind ∙ (ap (λ (k : Proof). record s { proof = Some k }) same ∙ sym q.behind)
  derived-one (inl p) (inr q) = absurd (derived-letter p.now p.next line p.derived (continues-letter s u (next_without s.verdict s.conflict s.begun) line q.1))
  derived-one (inr p) (inl q) = absurd (derived-letter q.now q.next line q.derived (continues-letter s t (next_without s.verdict s.conflict s.begun) line p.1))
  derived-one (inr p) (inr q) = continues-one s t u (next_without s.verdict s.conflict s.begun) line p.1 q.1

  values-one : IsValue s line t ⊎ (IsMet s × GoesOn s line t) → IsValue s line u ⊎ (IsMet s × GoesOn s line u) → t ≡ u
  values-one (inl p) (inl q) =
      let at : q.decl ≡ p.decl = some-same q.decl p.decl (slice_get s.model.decls (length s.values)) q.turn p.turn in
      let limit = limit-at s.model.decls (length s.values) p.decl limits p.turn in
      let same = one-value p.decl line p.value q.value limit p.told (subst (λ (d : Decl). IsValueLine d line q.value) at q.told) in
      p.behind ∙ (ap (λ (z : ℤ). record s { values = s.values ++ z ∷ [] }) same ∙ sym q.behind)
  values-one (inl p) (inr q) = absurd (no-turn s.model.decls (length s.values) p.decl p.turn q.0.all)
  values-one (inr p) (inl q) = absurd (no-turn s.model.decls (length s.values) q.decl q.turn p.0.all)
  values-one (inr p) (inr q) = continues-one s t u (next_without s.verdict s.conflict s.begun) line p.1 q.1

  one-in : (p : Part) → NextIn s p line t → NextIn s p line u → t ≡ u
  one-in part.Version p q = p.1 ∙ sym q.1
  one-in part.Verdict p q = verdict-one p q
  one-in part.Statements p q = statements-one p q
  one-in part.Ledger p q = ledger-one p q
  one-in part.Proof p q = derived-one p q
  one-in part.Values p q = values-one p q
  one-in part.End p q = absurd p

pub one-next : OneNext
one-next s t u line limits p q = one-in s t u line limits s.part p q
