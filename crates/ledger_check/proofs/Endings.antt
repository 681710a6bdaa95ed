-- What a document says at its end.
use Rattle.std.proofs.Common.{◌≡◌, ℕ, ◌+◌, true, false, List, [], ◌∷◌, ◌++◌, map, codes, length, append_assoc, Option, None, Some, refl, sym, ap, ◌∙◌, subst, ℤ, arith}
use Rattle.std.specs.Prelude.{if◌then◌else◌, is_some, ◌==◌}
use Rattle.std.proofs.lemmas.Bool.{true≢false, false≢true}
use Rattle.std.proofs.lemmas.List.{append-nil}
use Rattle.order_ints.specs.View.{resolve}
use Rattle.model_meaning.specs.declared.model.Decl.{Decl}
use Rattle.model_meaning.specs.declared.model.Model.{Model}
use Rattle.model_lower.specs.Lowering.{lowered_of}
use Rattle.ledger_text.specs.Steps.{step_text}
use Rattle.step_kernel.specs.CnfOf.{cnf_of}
use Rattle.proof_check.specs.Lines.{line_bytes}
use Rattle.proof_check.specs.Lrat.{Proof, proof_of, take_lines}
use Rattle.answer_document.specs.declared.verdict.Bounds.{Bounds}
use Rattle.answer_document.specs.declared.verdict.Verdict.{Verdict}
use Rattle.answer_document.specs.declared.verdict.Verdict.TheVariants.{Satisfiable, Unsatisfiable, Optimum, Unknown}
use Rattle.answer_document.specs.declared.document.Document.{Document}
use Rattle.answer_document.specs.Verdicts.{verdict_text, is_certified}
use Rattle.answer_document.specs.DocumentText.{version_line, best_lines, assignment_lines, certificate_lines, document_lines}
use Rattle.name_map.specs.ValueLines.{declared_lines}
use Rattle.answer_document.specs.BoundAtoms.{first_bound, second_bound, fixed}
use Rattle.answer_document.specs.Valid.{stated, IsShown, first_shown, second_shown, atom_clauses, IsDerived, IsSecond, AreShown, AreAdded, IsCertified, numbers_given, FitValues, FitAssignment}
use Rattle.ledger_check.specs.declared.part.Part.TheVariants as part
use Rattle.ledger_check.specs.Items.{Standing, may_have_second, must_have_second}
use Rattle.ledger_check.specs.Tests.{is_shown, is_first_shown, is_second_shown, is_optimal, is_concluded, additions_in, is_refuted, values_fault}
use Rattle.ledger_check.specs.Fronts.{head_lines, ledger_lines, proof_lines, more_lines, answer_of, assignment_of, AtValues, AtProof, AtSecond, AtEnd}
use Rattle.ledger_check.proofs.Answers.{answered-alone}
use Rattle.ledger_check.proofs.Heads.{declared_lines-nil}
use Rattle.ledger_check.proofs.Certificates.{one-more, shown-is, equal-count}

-- The lines of a document.

given-numbers : (v : Verdict) (values : List ℤ) → numbers_given (assignment_of v values) ≡ answer_of v values
given-numbers Satisfiable values = refl
given-numbers Unsatisfiable values = refl
given-numbers (Optimum b) values = refl
given-numbers (Unknown n None) values = refl
given-numbers (Unknown n (Some b)) values = refl

fit-assignment : (v : Verdict) (values : List ℤ) → FitValues values → FitAssignment (assignment_of v values)
fit-assignment Satisfiable values h = h
fit-assignment Unsatisfiable values h = tt
fit-assignment (Optimum b) values h = h
fit-assignment (Unknown n None) values h = tt
fit-assignment (Unknown n (Some b)) values h = h

none-lines : (decls : List Decl) (values : List ℤ) → values ≡ [] → declared_lines decls values ≡ []
none-lines decls values e = ap (declared_lines decls) e ∙ declared_lines-nil decls

assignment-given : (decls : List Decl) (v : Verdict) (values : List ℤ) → (answer_of v values ≡ None → values ≡ []) → declared_lines decls values ≡ assignment_lines decls (assignment_of v values)
assignment-given decls Satisfiable values h = refl
assignment-given decls Unsatisfiable values h = none-lines decls values (h refl)
assignment-given decls (Optimum b) values h = refl
assignment-given decls (Unknown n None) values h = none-lines decls values (h refl)
assignment-given decls (Unknown n (Some b)) values h = refl

-- what was read up to the last value, and what stands behind, are the lines of a document
head-document : (model : Model) (v : Verdict) (values : List ℤ) → (answer_of v values ≡ None → values ≡ []) → (rest : List (List ℕ))
    → head_lines model v values ++ rest ≡ version_line model.goal ∷ verdict_text v ∷ (best_lines v ++ (assignment_lines model.decls (assignment_of v values) ++ rest))
head-document model v values h rest =
    ap (λ x. version_line model.goal ∷ verdict_text v ∷ x)
    (append_assoc (best_lines v) (declared_lines model.decls values) rest ∙ ap (λ x. best_lines v ++ (x ++ rest)) (assignment-given model.decls v values h))

-- with a certificate
certified-lines : (model : Model) (d : Document) → is_certified d.verdict ≡ true
    → version_line model.goal ∷ verdict_text d.verdict ∷ (best_lines d.verdict ++ (assignment_lines model.decls d.assignment ++ (certificate_lines d ++ codes "end" ∷ []))) ≡ document_lines model.decls model.goal d
certified-lines model d e =
    ap (λ b. version_line model.goal ∷ verdict_text d.verdict ∷ (best_lines d.verdict ++ (assignment_lines model.decls d.assignment ++ ((if b then certificate_lines d else []) ++ codes "end" ∷ [])))) (sym e)

module _ (model : Model) (s : Standing) (lines : List (List ℕ)) (line : List ℕ) where
  abbrev all : List (List ℕ)
  all = lines ++ line ∷ []

  -- Behind the values alone.

  alone : (v : Verdict) → is_certified v ≡ false → v ≡ Satisfiable
  alone Satisfiable e = refl
  alone Unsatisfiable e = absurd (true≢false e)
  alone (Optimum b) e = absurd (true≢false e)
  alone (Unknown n best) e = absurd (true≢false e)

  has-given : (v : Verdict) (values : List ℤ) → v ≡ Satisfiable → answer_of v values ≡ None → values ≡ []
  has-given v values e f = absurd (none (sym (ap (λ x. answer_of x values) e) ∙ f))
    where
      none : Some values ≡ None → ⊥
      none e = cc

  pub end-behind-values : AtValues model lines s → is_certified s.verdict ≡ false → values_fault model s ≡ None → line ≡ codes "end" → AtEnd model all (record s { part = part.End })
  end-behind-values at bare fault is =
      let same = alone s.verdict bare in
      let d : Document = record { verdict = s.verdict; assignment = assignment_of s.verdict s.values; ledger = []; proof = []; second = None } in
      record {
        document = d;
        read = one-more lines (head_lines model s.verdict s.values) line (codes "end") at.read is
            ∙ head-document model s.verdict s.values (has-given s.verdict s.values same) (codes "end" ∷ [])
            ∙ ap (λ b. version_line model.goal ∷ verdict_text s.verdict ∷ (best_lines s.verdict ++ (assignment_lines model.decls (assignment_of s.verdict s.values) ++ ((if b then certificate_lines d else []) ++ codes "end" ∷ [])))) (sym bare);
        readable = record { verdict = at.fitting.numbers; assignment = fit-assignment s.verdict s.values at.values; ledger = tt; proof = tt; second = tt };
        verdict = refl;
        assignment = given-numbers s.verdict s.values;
        fits = at.fitting.fits;
        answer = answered-alone model s at.answer fault;
        certificate = subst (IsCertified model d) (sym same) tt;
      }

  -- Behind one derivation.

  abbrev one-proof : AtProof model lines s → Document
  one-proof at = record { verdict = s.verdict; assignment = assignment_of s.verdict s.values; ledger = at.ledger; proof = at.proof; second = None }

  abbrev derived-one : (at : AtProof model lines s) → IsDerived model (one-proof at)
  derived-one at = record { last = s.kernel; leads = at.leads; proof = at.reached; accepted = at.accepted }

  -- the bound of the first objective is shown
  first-is-shown : (p : Proof) (m : ℤ) → s.entries ≡ (lowered_of model).map.entries → s.first ≡ Some p → is_first_shown model s s.first m ≡ true → IsShown p (first_shown model s.kernel m)
  first-is-shown p m entries first h =
      shown-is p (first_shown model s.kernel m)
      (ap (λ es. is_shown p (resolve s.kernel.view (first_bound model.goal es m))) (sym entries) ∙ sym (ap (λ o. is_first_shown model s o m) first) ∙ h)

  second-is-shown : (q : Proof) (n : ℤ) → s.entries ≡ (lowered_of model).map.entries → s.second ≡ Some q → is_second_shown model s s.second n ≡ true → IsShown q (second_shown model s.kernel n)
  second-is-shown q n entries second h =
      shown-is q (second_shown model s.kernel n)
      (ap (λ es. is_shown q (resolve s.kernel.view (second_bound model.goal es n))) (sym entries) ∙ sym (ap (λ o. is_second_shown model s o n) second) ∙ h)

  counted : (p : Proof) (o r : Option Proof) (n : ℕ) → o ≡ Some p → r ≡ None → (additions_in o + additions_in r == n) ≡ true → length p.added ≡ n
  counted p o r n e f h =
      let sum = equal-count (additions_in o + additions_in r) n h in
      omega (arith, sum, ap additions_in e, ap additions_in f)

  counted-both : (p q : Proof) (o r : Option Proof) (n : ℕ) → o ≡ Some p → r ≡ Some q → (additions_in o + additions_in r == n) ≡ true → length p.added + length q.added ≡ n
  counted-both p q o r n e f h =
      let sum = equal-count (additions_in o + additions_in r) n h in
      omega (arith, sum, ap additions_in e, ap additions_in f)

  optimal : (at : AtProof model lines s) (b : Bounds) (o : Option ℤ) → is_some o ≡ false → is_optimal model s b.first o ≡ true → AreShown model s.kernel at.reached b o None
  optimal at b None absent h = first-is-shown at.reached b.first at.entries at.first h
  optimal at b (Some n) absent h = absurd (true≢false absent)

  certificate-one : (at : AtProof model lines s) (v : Verdict) → is_certified v ≡ true → must_have_second v ≡ false → is_concluded model s v ≡ true → IsCertified model (one-proof at) v
  certificate-one at Satisfiable certified absent h = absurd (false≢true certified)
  certificate-one at Unsatisfiable certified absent h = (derived-one at, sym (ap is_refuted at.first) ∙ h, refl)
  certificate-one at (Optimum b) certified absent h = (derived-one at, optimal at b b.second absent h)
  certificate-one at (Unknown n None) certified absent h = (derived-one at, counted at.reached s.first s.second n at.first at.second h)
  certificate-one at (Unknown n (Some b)) certified absent h = (derived-one at, counted at.reached s.first s.second n at.first at.second h)

  pub end-behind-proof : AtProof model lines s → must_have_second s.verdict ≡ false → is_concluded model s s.verdict ≡ true → line ≡ codes "end" → AtEnd model all (record s { part = part.End })
  end-behind-proof at absent concluded is = record {
    document = one-proof at;
    read = one-more lines (head_lines model s.verdict s.values ++ (ledger_lines at.ledger ++ proof_lines at.proof)) line (codes "end") at.read is
        ∙ append_assoc (head_lines model s.verdict s.values) (ledger_lines at.ledger ++ proof_lines at.proof) (codes "end" ∷ [])
        ∙ head-document model s.verdict s.values at.answered.none ((ledger_lines at.ledger ++ proof_lines at.proof) ++ codes "end" ∷ [])
        ∙ ap (λ x. version_line model.goal ∷ verdict_text s.verdict ∷ (best_lines s.verdict ++ (assignment_lines model.decls (assignment_of s.verdict s.values) ++ (x ++ codes "end" ∷ [])))) (one-certificate at)
        ∙ certified-lines model (one-proof at) at.answered.certified;
    readable = record { verdict = at.answered.fitting.numbers; assignment = fit-assignment s.verdict s.values at.answered.fit; ledger = at.readable; proof = at.readable_proof; second = tt };
    verdict = refl;
    assignment = given-numbers s.verdict s.values;
    fits = at.answered.fitting.fits;
    answer = at.answered.holds;
    certificate = certificate-one at s.verdict at.answered.certified absent concluded;
  }
    where
      one-certificate : (at : AtProof model lines s) → ledger_lines at.ledger ++ proof_lines at.proof ≡ certificate_lines (one-proof at)
      one-certificate at = ap (λ x. codes "ledger" ∷ (map step_text at.ledger ++ codes "proof" ∷ x)) (sym (append-nil (map line_bytes at.proof)))

  -- Behind two.

  abbrev two-proofs : AtSecond model lines s → Document
  two-proofs at = record { verdict = s.verdict; assignment = assignment_of s.verdict s.values; ledger = at.ledger; proof = at.proof; second = Some at.more }

  abbrev derived-two : (at : AtSecond model lines s) → IsDerived model (two-proofs at)
  derived-two at = record { last = s.kernel; leads = at.leads; proof = at.reached; accepted = at.accepted }

  abbrev is-second : (at : AtSecond model lines s) → IsSecond model s.kernel at.reached at.bounds at.more
  is-second at = record {
    bound = first-is-shown at.reached at.bounds.first at.entries at.first at.shown;
    proof = at.furthest;
    accepted = ap (λ es. take_lines (proof_of (record { vars = (cnf_of s.kernel).vars; clauses = (cnf_of s.kernel).clauses ++ atom_clauses (resolve s.kernel.view (fixed model.goal es at.bounds.first)) })) at.more) (sym at.entries)
        ∙ at.accepted_more;
  }

  both-optimal : (at : AtSecond model lines s) (o : Option ℤ) → is_some o ≡ true → is_optimal model s at.bounds.first o ≡ true → AreShown model s.kernel at.reached at.bounds o (Some at.more)
  both-optimal at None two h = absurd (false≢true two)
  both-optimal at (Some n) two h = (is-second at, second-is-shown at.furthest n at.entries at.second h)

  both-added : (at : AtSecond model lines s) (n : ℕ) (o : Option ℤ) → is_some o ≡ true → (additions_in s.first + additions_in s.second == n) ≡ true → AreAdded model s.kernel at.reached n at.bounds o (Some at.more)
  both-added at n None two h = absurd (false≢true two)
  both-added at n (Some m) two h = (is-second at, counted-both at.reached at.furthest s.first s.second n at.first at.second h)

  same-bounds : (b c : Bounds) → Some b ≡ Some c → c ≡ b
  same-bounds b c e = cc

  no-bounds : (c : Bounds) → None ≡ Some c → ⊥
  no-bounds c e = cc

  certificate-two : (at : AtSecond model lines s) (v : Verdict) → stated v ≡ Some at.bounds → may_have_second v ≡ true → is_concluded model s v ≡ true → IsCertified model (two-proofs at) v
  certificate-two at Satisfiable e two h = absurd (false≢true two)
  certificate-two at Unsatisfiable e two h = absurd (false≢true two)
  certificate-two at (Optimum b) e two h =
      let same = same-bounds b at.bounds e in (
        derived-two at,
        subst (λ (x : Bounds). AreShown model s.kernel at.reached x x.second (Some at.more)) same
            (both-optimal at at.bounds.second (subst (λ (x : Bounds). is_some x.second ≡ true) (sym same) two) (subst (λ (x : Bounds). is_optimal model s x.first x.second ≡ true) (sym same) h)),
      )
  certificate-two at (Unknown n None) e two h = absurd (false≢true two)
  certificate-two at (Unknown n (Some b)) e two h =
      let same = same-bounds b at.bounds e in (
        derived-two at,
        subst (λ (x : Bounds). AreAdded model s.kernel at.reached n x x.second (Some at.more)) same
            (both-added at n at.bounds.second (subst (λ (x : Bounds). is_some x.second ≡ true) (sym same) two) h),
      )

  pub end-behind-second : AtSecond model lines s → is_concluded model s s.verdict ≡ true → line ≡ codes "end" → AtEnd model all (record s { part = part.End })
  end-behind-second at concluded is = record {
    document = two-proofs at;
    read = one-more lines (head_lines model s.verdict s.values ++ (ledger_lines at.ledger ++ (proof_lines at.proof ++ more_lines at.more))) line (codes "end") at.read is
        ∙ append_assoc (head_lines model s.verdict s.values) (ledger_lines at.ledger ++ (proof_lines at.proof ++ more_lines at.more)) (codes "end" ∷ [])
        ∙ head-document model s.verdict s.values at.answered.none ((ledger_lines at.ledger ++ (proof_lines at.proof ++ more_lines at.more)) ++ codes "end" ∷ [])
        ∙ certified-lines model (two-proofs at) at.answered.certified;
    readable = record { verdict = at.answered.fitting.numbers; assignment = fit-assignment s.verdict s.values at.answered.fit; ledger = at.readable; proof = at.readable_proof; second = at.readable_more };
    verdict = refl;
    assignment = given-numbers s.verdict s.values;
    fits = at.answered.fitting.fits;
    answer = at.answered.holds;
    certificate = certificate-two at s.verdict at.stated at.two concluded;
  }
