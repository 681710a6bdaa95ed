-- What is known of a document goes on with each line that is the next, so that a whole text is a valid answer.
use Rattle.std.proofs.Common.{◌≡◌, ℕ, List, [], ◌∷◌, ◌++◌, length, append_assoc, Option, None, Some, Result, Ok, Err, refl, sym, ap, ◌∙◌, subst, ℤ}
use Rattle.std.specs.Prelude.{slice_get}
use Rattle.std.proofs.lemmas.List.{append-nil}
use Rattle.bee_text.specs.Lines.{join_lines}
use Rattle.model_meaning.specs.declared.model.Model.{Model}
use Rattle.answer_document.specs.declared.verdict.Bounds.{Bounds}
use Rattle.answer_document.specs.Valid.{IsValid}
use Rattle.proof_check.specs.Lrat.{proof_of}
use Rattle.line_texts.specs.LineByLine.{Lead, IsWhole}
use Rattle.ledger_check.specs.declared.part.Part.{Part}
use Rattle.ledger_check.specs.declared.part.Part.TheVariants as part
use Rattle.ledger_check.specs.declared.fault.Why.{Why}
use Rattle.ledger_check.specs.declared.fault.Why.TheVariants as why
use Rattle.ledger_check.specs.Items.{Item, Version, Answer, Best, Value, LedgerBegins, Step, ProofBegins, Derived, SecondBegins, End, Standing, item_line, MayStandIn}
use Rattle.ledger_check.specs.Tests.{start_standing, when, with_value, second_begun, told_of, taken_in, is_first_shown, fixed_cnf}
use Rattle.ledger_check.specs.Reading.{IsNext, IsEnd}
use Rattle.ledger_check.specs.Fronts.{answer_of, AtEnd, KnownIn, Known}
use Rattle.ledger_check.proofs.Heads.{version-read, verdict-read, best-read, value-read}
use Rattle.ledger_check.proofs.Stepping.{when-ok, unless-ok, kernel-ok, first-ok, second-ok}
use Rattle.ledger_check.proofs.Certificates.{ledger-behind-values, ledger-behind-count, ledger-behind-none, step-read, proof-begun, line-read, second-begun, more-read}
use Rattle.ledger_check.proofs.Endings.{end-behind-values, end-behind-proof, end-behind-second}

ok-same : (x y : Standing) → ◌≡◌ {A = Result Standing Why} (Ok x) (Ok y) → x ≡ y
ok-same x y e = cc

err-ok : (x : Standing) (w : Why) → ◌≡◌ {A = Result Standing Why} (Err w) (Ok x) → ⊥
err-ok x w h = cc

value-ok : (s t : Standing) (o : Option ℤ) → with_value s o ≡ Ok t → (z : ℤ) × (o ≡ Some z) × (record s { values = s.values ++ z ∷ [] } ≡ t)
value-ok s t None e = absurd (err-ok t why.Value e)
value-ok s t (Some z) e = (z, refl, ok-same (record s { values = s.values ++ z ∷ [] }) t e)

begun-ok : (model : Model) (s t : Standing) (o : Option Bounds) → second_begun model s o ≡ Ok t → (b : Bounds) × (o ≡ Some b) × (when (is_first_shown model s s.first b.first) why.Open (record s { part = part.Second; second = Some (proof_of (fixed_cnf model s b.first)) }) ≡ Ok t)
begun-ok model s t None e = absurd (err-ok t why.Open e)
begun-ok model s t (Some b) e = (b, refl, e)

module _ (model : Model) (s : Standing) (lines : List (List ℕ)) (line : List ℕ) (t : Standing) where
  abbrev all : List (List ℕ)
  all = lines ++ line ∷ []

  -- a line more, in each part
  onward : (p : Part) (item : Item) → s.part ≡ p → KnownIn p model lines s → MayStandIn model s p item → line ≡ item_line model s item → taken_in model s p item ≡ Ok t → Known model all t
  onward part.Version (Version two) here at may is made =
      let passed = when-ok _ why.Goal _ t made in
      subst (Known model all) passed.1 (version-read model s lines line at two is passed.0)
  onward part.Verdict (Answer v) here at may is made =
      let passed = when-ok _ why.Goal _ t made in
      subst (Known model all) passed.1 (verdict-read model s lines line at v may is passed.0)
  onward part.Best (Best b) here at may is made =
      let passed = when-ok _ why.Goal _ t made in
      subst (Known model all) passed.1 (best-read model s lines line at b may is passed.0)
  onward part.Best LedgerBegins here at may is made = subst (Known model all) (ok-same (record s { part = part.Ledger }) t made) (ledger-behind-count model s lines line at is)
  onward part.Values (Value told) here at may is made =
      let value = value-ok s t (told_of (slice_get model.decls (length s.values)) told) made in
      subst (Known model all) value.2 (subst (λ p. KnownIn p model all (record s { values = s.values ++ value.0 ∷ [] })) (sym here) (value-read model s lines line at told value.0 may.0 may.1 is value.1))
  onward part.Values LedgerBegins here at may is made =
      let passed = unless-ok _ _ t made in
      subst (Known model all) passed.1 (ledger-behind-values model s lines line at may.1 passed.0 is)
  onward part.Values End here at may is made =
      let passed = unless-ok _ _ t made in
      subst (Known model all) passed.1 (end-behind-values model s lines line at may.1 passed.0 is)
  onward part.Unanswered LedgerBegins here at may is made = subst (Known model all) (ok-same (record s { part = part.Ledger }) t made) (ledger-behind-none model s lines line at is)
  onward part.Ledger (Step l) here at may is made =
      let k = kernel-ok s t _ made in
      subst (Known model all) k.2 (subst (λ p. KnownIn p model all (record s { kernel = k.0 })) (sym here) (step-read model s lines line at l k.0 may is k.1))
  onward part.Ledger ProofBegins here at may is made = subst (Known model all) (ok-same _ t made) (proof-begun model s lines line at is)
  onward part.Proof (Derived l) here at may is made =
      let p = first-ok s t _ made in
      subst (Known model all) p.2 (subst (λ x. KnownIn x model all (record s { first = Some p.0 })) (sym here) (line-read model s lines line at l p.0 may is p.1))
  onward part.Proof SecondBegins here at may is made =
      let b = begun-ok model s t _ made in
      let passed = when-ok _ why.Open _ t b.2 in
      subst (Known model all) passed.1 (second-begun model s lines line at b.0 b.1 may passed.0 is)
  onward part.Proof End here at may is made =
      let passed = when-ok _ why.Open _ t made in
      subst (Known model all) passed.1 (end-behind-proof model s lines line at may passed.0 is)
  onward part.Second (Derived l) here at may is made =
      let p = second-ok s t _ made in
      subst (Known model all) p.2 (subst (λ x. KnownIn x model all (record s { second = Some p.0 })) (sym here) (more-read model s lines line at l p.0 may is p.1))
  onward part.Second End here at may is made =
      let passed = when-ok _ why.Open _ t made in
      subst (Known model all) passed.1 (end-behind-second model s lines line at passed.0 is)
  onward p item here at may is made = absurd may

  pub next-known : Known model lines s → IsNext model s line t → Known model all t
  next-known at next = onward s.part next.item refl at next.says.0 next.says.1 next.taken

module _ (model : Model) where
  lead-known : (s t : Standing) (before lines : List (List ℕ)) → Known model before s → Lead (IsNext model) s lines t → Known model (before ++ lines) t
  lead-known s t before [] at lead = subst (λ x. Known model (before ++ []) x) lead (subst (λ ls. Known model ls s) (sym (append-nil before)) at)
  lead-known s t before (line ∷ lines) at lead =
      subst (λ ls. Known model ls t) (append_assoc before (line ∷ []) lines)
      (lead-known lead.0 t (before ++ line ∷ []) lines (next-known model s before line lead.0 at lead.1) lead.2)

  nothing-known : Known model [] (start_standing model)
  nothing-known = record {
    fresh = record { kernel = refl; entries = refl; first = refl; second = refl };
    values = refl;
    read = refl;
  }

  -- a whole text is a valid answer
  pub whole-valid : (text : List ℕ) (s : Standing) → IsWhole (IsNext model) IsEnd (start_standing model) text s → IsValid model text s.verdict (answer_of s.verdict s.values)
  whole-valid text s whole =
      let known = lead-known (start_standing model) s [] whole.lines nothing-known whole.lead in
      let at : AtEnd model whole.lines s = subst (λ p. KnownIn p model whole.lines s) whole.ended known in
      record {
        document = at.document;
        spelled = whole.joined ∙ ap join_lines at.read;
        readable = at.readable;
        verdict = at.verdict;
        assignment = at.assignment;
        fits = at.fits;
        answer = at.answer;
        certificate = at.certificate;
      }
