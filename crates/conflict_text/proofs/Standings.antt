-- What is known of a text behind some of its lines.
use Rattle.std.proofs.Common.{◌≡◌, ◌⊎◌, inl, inr, ℕ, zero, suc, ◌+◌, ◌<◌, ◌≤◌, Bool, true, false, List, [], ◌∷◌, ◌++◌, length, Option, Some, None, Ok, refl, sym, ap, subst, ◌∙◌, arith}
use Rattle.std.specs.Prelude.{◌==◌, ◌||◌, slice_get, IfSome, IsTrue, ℤ}
use Rattle.model_meaning.specs.declared.model.Model.{Model}
use Rattle.model_meaning.specs.Limits.{InLimits}
use Rattle.model_meaning.specs.WellTyped.{WellTyped}
use Rattle.model_meaning.specs.Domains.{in_domains}
use Rattle.model_meaning.specs.Solutions.{AllHold, IsSolution}
use Rattle.model_weight.specs.Weight.{weight_of}
use Rattle.model_lower.specs.Weighed.{most_weight}
use Rattle.model_parts.specs.Only.{is_listed, only, all_but}
use Rattle.model_parts.specs.CoreWeight.{core_weight}
use Rattle.model_parts.proofs.Typed.{only-typed, only-limits}
use Rattle.model_parts.proofs.Weights.{only-weight}
use Rattle.step_kernel.specs.Kernel.{Kernel}
use Rattle.step_kernel.specs.CnfOf.{cnf_of}
use Rattle.proof_check.specs.Lrat.{Proof, proof_of}
use Rattle.proof_check.specs.Known.{known}
use Rattle.answer_document.specs.Valid.{start_of}
use Rattle.answer_document.proofs.Witnesses.{witness}
use Rattle.answer_document.proofs.Shown.{not-refuted}
use Rattle.certificate_lines.specs.CertificateLines.{IsLedger, IsDerivation}
use Rattle.certificate_lines.proofs.Chains.{steps-lead, derivation-leads}
use Rattle.conflict_text.specs.declared.verdict.CoreVerdict.{CoreVerdict}
use Rattle.conflict_text.specs.declared.verdict.CoreVerdict.TheVariants.{Satisfiable, Core, Unknown}
use Rattle.conflict_text.specs.declared.part.Part.{Part}
use Rattle.conflict_text.specs.declared.part.Part.TheVariants as part
use Rattle.conflict_text.specs.ConflictLines.{Standing, IsVerdict, IsNamed, IsLedgerBegin, IsStep, IsProofBegin, IsDerived, IsConcluded, HasNamed, behind_verdict, next_without, Continues, GoesOn, IsValue, IsMet, MeetsStatements, NextIn, IsNext}
use Rattle.conflict_text.specs.ConflictSays.{IsNeeded, Says}

some-is : {A : Type 0} (x y : A) → Some x ≡ Some y → x ≡ y
some-is x y e = cc

-- each statement of the part up to a place has its assignment
abbrev pub HaveWitnesses : Model → List ℕ → ℕ → Type 0
HaveWitnesses model conflict m = (p : ℕ) → p < m → IfSome (slice_get conflict p) (IsNeeded model conflict)

abbrev pub IsRefuted : Model → List ℕ → Type 0
IsRefuted model conflict = (a : List ℤ) → IsSolution (only model conflict) a → ⊥

-- the part has no solution, and those before the statement that was named last have their assignments
pub record IsWitnessing (model : Model) (s : Standing) (k : ℕ) : Type 0 where
  pub has : s.model ≡ only model s.conflict
  pub refuted : IsRefuted model s.conflict
  pub complete : length s.conflict ≡ k
  pub before : ℕ
  pub begun : s.begun ≡ before + 1
  pub at : slice_get s.conflict before ≡ Some s.now
  pub have : HaveWitnesses model s.conflict before

abbrev pub StandsInValues : Model → Standing → CoreVerdict → Type 0
StandsInValues model s Satisfiable = s.model ≡ model
StandsInValues model s (Core k) = IsWitnessing model s k
StandsInValues model s (Unknown n) = ⊥

pub record StandsInLedger (model : Model) (s : Standing) : Type 0 where
  pub has : s.model ≡ only model s.conflict
  pub begun : s.begun ≡ 0
  pub complete : HasNamed s.verdict (length s.conflict)
  pub ledger : (k : Kernel) → s.kernel ≡ Some k → IsLedger (start_of (only model s.conflict)) k

pub record StandsInProof (model : Model) (s : Standing) : Type 0 where
  pub has : s.model ≡ only model s.conflict
  pub begun : s.begun ≡ 0
  pub complete : HasNamed s.verdict (length s.conflict)
  pub last : Kernel
  pub ledger : IsLedger (start_of (only model s.conflict)) last
  pub derivation : (p : Proof) → s.proof ≡ Some p → IsDerivation (cnf_of last) p

abbrev pub StandsIn : Model → Standing → Part → Type 0
StandsIn model s part.Version = (s.begun ≡ 0) × (s.model ≡ model)
StandsIn model s part.Verdict = (s.begun ≡ 0) × (s.model ≡ model)
StandsIn model s part.Statements = (s.begun ≡ 0) × (s.model ≡ model)
StandsIn model s part.Ledger = StandsInLedger model s
StandsIn model s part.Proof = StandsInProof model s
StandsIn model s part.Values = StandsInValues model s s.verdict
StandsIn model s part.End = Says model s s.verdict

abbrev pub Stands : Model → Standing → Type 0
Stands model s = StandsIn model s s.part

keeps : (model : Model) (p : Part) (u : Standing) → u.part ≡ p → StandsIn model u p → StandsIn model u u.part
keeps model p u e h = subst (λ (q : Part). StandsIn model u q) (sym e) h

-- Places of listed numbers.

place-of : (conflict : List ℕ) (n : ℕ) → IsTrue (is_listed n conflict) → (p : ℕ) × (slice_get conflict p ≡ Some n)
place-of [] n h = absurd (cc)
place-of (m ∷ conflict) n h = by_test (n == m) refl h (place-of conflict n)
  where
    same : (x y : ℕ) → (x == y) ≡ true → y ≡ x
    same x y e = grind arith

    by_test : (b : Bool) → (n == m) ≡ b → (b || is_listed n conflict) ≡ true → (is_listed n conflict ≡ true → (p : ℕ) × (slice_get conflict p ≡ Some n)) → (p : ℕ) × (slice_get (m ∷ conflict) p ≡ Some n)
    by_test true e k rest = (zero, ap (λ (x : ℕ). Some x) (same n m e))
    by_test false e k rest = let at = rest k in (suc at.0, at.1)

below-none : (conflict : List ℕ) (m p n : ℕ) → slice_get conflict m ≡ None → slice_get conflict p ≡ Some n → p < m
below-none [] m p n e f = absurd (cc)
below-none (x ∷ conflict) zero p n e f = absurd (cc)
below-none (x ∷ conflict) (suc m) zero n e f = omega arith
below-none (x ∷ conflict) (suc m) (suc p) n e f = let h = below-none conflict m p n e f in omega (arith, h)

module _ (model : Model) where
  all-needed : (conflict : List ℕ) (m : ℕ) → HaveWitnesses model conflict m → slice_get conflict m ≡ None → (n : ℕ) → IsTrue (is_listed n conflict) → IsNeeded model conflict n
  all-needed conflict m have none n listed =
      let at = place-of conflict n listed in
      subst (λ (o : Option ℕ). IfSome o (IsNeeded model conflict)) at.1 (have at.0 (below-none conflict m at.0 n none at.1))

  one-more : (conflict : List ℕ) (m n : ℕ) → HaveWitnesses model conflict m → slice_get conflict m ≡ Some n → IsNeeded model conflict n → HaveWitnesses model conflict (m + 1)
  one-more conflict m n have at needed p below = by_place (p == m) refl
    where
      same : (x y : ℕ) → (x == y) ≡ true → x ≡ y
      same x y e = grind arith

      less : (x y : ℕ) → (x == y) ≡ false → x < y + 1 → x < y
      less x y e l = grind arith

      here : slice_get conflict p ≡ Some n → IfSome (slice_get conflict p) (IsNeeded model conflict)
      here e = rw e needed

      by_place : (b : Bool) → (p == m) ≡ b → IfSome (slice_get conflict p) (IsNeeded model conflict)
      by_place true e = here (ap (slice_get conflict) (same p m e) ∙ at)
      by_place false e = have p (less p m e below)

  -- behind an assignment that is whole, or behind the derivation, the next one begins, or the text ends
  goes-on : (s t : Standing) (k : ℕ) (line : List ℕ) → s.verdict ≡ Core k → s.model ≡ only model s.conflict → IsRefuted model s.conflict → length s.conflict ≡ k → HaveWitnesses model s.conflict s.begun → GoesOn s line t → StandsIn model t t.part
  goes-on s t k line v has refuted complete have h =
      by_next (slice_get s.conflict s.begun) refl (subst (λ (v : CoreVerdict). Continues s (next_without v s.conflict s.begun) line t) v h)
    where
      witnessing : (n : ℕ) → slice_get s.conflict s.begun ≡ Some n → StandsIn model (record s { part = part.Values; now = n; begun = s.begun + 1; values = [] }) part.Values
      witnessing n at = subst (λ (v : CoreVerdict). StandsInValues model (record s { part = part.Values; now = n; begun = s.begun + 1; values = [] }) v) (sym v)
          (record { has = has; refuted = refuted; complete = complete; before = s.begun; begun = refl; at = at; have = have })

      ended : slice_get s.conflict s.begun ≡ None → StandsIn model (record s { part = part.End }) part.End
      ended none = subst (λ (v : CoreVerdict). Says model (record s { part = part.End }) v) (sym v)
          (record { unsatisfiable = refuted; needed = all-needed s.conflict s.begun have none }, complete)

      by_next : (o : Option ℕ) → slice_get s.conflict s.begun ≡ o → Continues s o line t → StandsIn model t t.part
      by_next (Some n) at (spelled, e) = subst (λ (t : Standing). StandsIn model t t.part) (sym e) (witnessing n at)
      by_next None none (spelled, e) = subst (λ (t : Standing). StandsIn model t t.part) (sym e) (ended none)

module _ (model : Model) (typed : WellTyped model) (limits : InLimits model) (light : core_weight model ≤ most_weight) where
  -- a derivation that knows the empty clause refutes the part
  refutes : (conflict : List ℕ) (last : Kernel) (p : Proof) → IsLedger (start_of (only model conflict)) last → IsDerivation (cnf_of last) p → IsTrue (known p []) → IsRefuted model conflict
  refutes conflict last p ledger derivation empty a solution =
      let weight = only-weight model conflict typed in
      let fits : weight_of (only model conflict) ≤ most_weight = omega (arith, weight, light) in
      let given = witness (only model conflict) (only-typed model conflict typed) (only-limits model conflict limits) fits ledger.ledger last ledger.leads a solution in
      not-refuted (cnf_of last) derivation.lines p derivation.accepted given.valuation given.satisfies empty

  module _ (s t : Standing) (line : List ℕ) where
    at : (u : Standing) → t ≡ u → StandsIn model u u.part → StandsIn model t t.part
    at u e h = subst (λ (t : Standing). StandsIn model t t.part) (sym e) h

    verdict-stands : IsVerdict s line t → (s.begun ≡ 0) × (s.model ≡ model) → StandsIn model t t.part
    verdict-stands h begun = at (record s { part = behind_verdict h.verdict; verdict = h.verdict }) h.behind (by_verdict h.verdict)
      where
        by_verdict : (v : CoreVerdict) → StandsIn model (record s { part = behind_verdict v; verdict = v }) (behind_verdict v)
        by_verdict Satisfiable = begun.1
        by_verdict (Core k) = begun
        by_verdict (Unknown n) = begun

    statement-stands : s.part ≡ part.Statements → IsNamed s line t ⊎ IsLedgerBegin s line t → (s.begun ≡ 0) × (s.model ≡ model) → StandsIn model t t.part
    statement-stands here (inl h) begun =
        let u : Standing = record s { conflict = s.conflict ++ h.number ∷ []; now = h.number } in
        at u h.behind (keeps model part.Statements u here begun)
    statement-stands here (inr h) begun =
        at (record s { model = only s.model s.conflict; part = part.Ledger; kernel = Some (start_of (only s.model s.conflict)) }) h.behind
        (record { has = has; begun = begun.0; complete = h.complete; ledger = λ k e. started k e })
      where
        has : only s.model s.conflict ≡ only model s.conflict
        has = ap (λ (m : Model). only m s.conflict) begun.1

        started : (k : Kernel) → Some (start_of (only s.model s.conflict)) ≡ Some k → IsLedger (start_of (only model s.conflict)) k
        started k e =
            let same : start_of (only s.model s.conflict) ≡ k = some-is (start_of (only s.model s.conflict)) k e in
            record { ledger = []; leads = ap (λ (k : Kernel). Ok k) (sym (ap start_of has) ∙ same) }

    ledger-stands : s.part ≡ part.Ledger → IsStep s line t ⊎ IsProofBegin s line t → StandsInLedger model s → StandsIn model t t.part
    ledger-stands here (inl h) stands =
        let u : Standing = record s { kernel = Some h.next } in
        at u h.behind (keeps model part.Ledger u here (record { has = stands.has; begun = stands.begun; complete = stands.complete; ledger = λ k e. stepped k e }))
      where
        stepped : (k : Kernel) → Some h.next ≡ Some k → IsLedger (start_of (only model s.conflict)) k
        stepped k e =
            let same : h.next ≡ k = some-is h.next k e in
            subst (λ (k : Kernel). IsLedger (start_of (only model s.conflict)) k) same
            (steps-lead (start_of (only model s.conflict)) h.now h.next line (stands.ledger h.now h.at) h.step)
    ledger-stands here (inr h) stands =
        at (record s { part = part.Proof; proof = Some (proof_of (cnf_of h.last)) }) h.behind
        (record { has = stands.has; begun = stands.begun; complete = stands.complete; last = h.last; ledger = stands.ledger h.last h.at; derivation = λ p e. derives p e })
      where
        derives : (p : Proof) → Some (proof_of (cnf_of h.last)) ≡ Some p → IsDerivation (cnf_of h.last) p
        derives p e =
            let same : proof_of (cnf_of h.last) ≡ p = some-is (proof_of (cnf_of h.last)) p e in
            record { lines = []; accepted = ap (λ (p : Proof). Ok p) same }

    concluded-stands : (v : CoreVerdict) (o : Option Proof) → s.verdict ≡ v → s.proof ≡ o → IsConcluded v o → GoesOn s line t → StandsInProof model s → StandsIn model t t.part
    concluded-stands v None e f h goes stands = absurd h
    concluded-stands Satisfiable (Some p) e f h goes stands = absurd h
    concluded-stands (Core k) (Some p) e f h goes stands =
        goes-on model s t k line e stands.has (refutes s.conflict stands.last p stands.ledger (stands.derivation p f) h)
        (subst (λ (v : CoreVerdict). HasNamed v (length s.conflict)) e stands.complete)
        (λ p below. absurd (let none = stands.begun in omega (arith, none, below))) goes
    concluded-stands (Unknown n) (Some p) e f h goes stands =
        let ends = subst (λ (v : CoreVerdict). Continues s (next_without v s.conflict s.begun) line t) e goes in
        at (record s { part = part.End }) ends.1 (subst (λ (v : CoreVerdict). Says model (record s { part = part.End }) v) (sym e) tt)

    proof-stands : s.part ≡ part.Proof → IsDerived s line t ⊎ (IsConcluded s.verdict s.proof × GoesOn s line t) → StandsInProof model s → StandsIn model t t.part
    proof-stands here (inl h) stands =
        let u : Standing = record s { proof = Some h.next } in
        at u h.behind
        (keeps model part.Proof u here
        (record { has = stands.has; begun = stands.begun; complete = stands.complete; last = stands.last; ledger = stands.ledger; derivation = λ p e. derives p e }))
      where
        derives : (p : Proof) → Some h.next ≡ Some p → IsDerivation (cnf_of stands.last) p
        derives p e =
            let same : h.next ≡ p = some-is h.next p e in
            subst (λ (p : Proof). IsDerivation (cnf_of stands.last) p) same
            (derivation-leads (cnf_of stands.last) h.now h.next line (stands.derivation h.now h.at) h.derived)
    proof-stands here (inr h) stands = concluded-stands s.verdict s.proof refl refl h.0 h.1 stands

    met-stands : (v : CoreVerdict) → s.verdict ≡ v → IsMet s → GoesOn s line t → StandsInValues model s v → StandsIn model t t.part
    met-stands Satisfiable e h goes stands =
        let ends = subst (λ (v : CoreVerdict). Continues s (next_without v s.conflict s.begun) line t) e goes in
        at (record s { part = part.End }) ends.1
        (subst (λ (v : CoreVerdict). Says model (record s { part = part.End }) v) (sym e)
        (subst (λ (m : Model). IsSolution m s.values) stands (record { in_domains = h.in_domains; holds = subst (λ (v : CoreVerdict). MeetsStatements s v) e h.holds })))
    met-stands (Core k) e h goes stands =
        let needed : IsNeeded model s.conflict s.now = record {
          assignment = s.values;
          in_domains = subst (λ (m : Model). IsTrue (in_domains m.decls s.values)) stands.has h.in_domains;
          others = subst (λ (m : Model). AllHold s.values (all_but s.now m.stmts)) stands.has (subst (λ (v : CoreVerdict). MeetsStatements s v) e h.holds);
        } in
        goes-on model s t k line e stands.has stands.refuted stands.complete
        (subst (λ (m : ℕ). HaveWitnesses model s.conflict m) (sym stands.begun) (one-more model s.conflict stands.before s.now stands.have stands.at needed)) goes
    met-stands (Unknown n) e h goes stands = absurd stands

    valued : (v : CoreVerdict) (z : ℤ) → StandsInValues model s v → StandsInValues model (record s { values = s.values ++ z ∷ [] }) v
    valued Satisfiable z stands = stands
    valued (Core k) z stands = record { has = stands.has; refuted = stands.refuted; complete = stands.complete; before = stands.before; begun = stands.begun; at = stands.at; have = stands.have }
    valued (Unknown n) z stands = stands

    values-stand : s.part ≡ part.Values → IsValue s line t ⊎ (IsMet s × GoesOn s line t) → StandsInValues model s s.verdict → StandsIn model t t.part
    values-stand here (inl h) stands =
        let u : Standing = record s { values = s.values ++ h.value ∷ [] } in
        at u h.behind (keeps model part.Values u here (valued s.verdict h.value stands))
    values-stand here (inr h) stands = met-stands s.verdict refl h.0 h.1 stands

    next-stands : (p : Part) → s.part ≡ p → NextIn s p line t → StandsIn model s p → StandsIn model t t.part
    next-stands part.Version here h begun = at (record s { part = part.Verdict }) h.1 begun
    next-stands part.Verdict here h begun = verdict-stands h begun
    next-stands part.Statements here h begun = statement-stands here h begun
    next-stands part.Ledger here h stands = ledger-stands here h stands
    next-stands part.Proof here h stands = proof-stands here h stands
    next-stands part.Values here h stands = values-stand here h stands
    next-stands part.End here h stands = absurd h

  pub stands-next : (s t : Standing) (line : List ℕ) → Stands model s → IsNext s line t → Stands model t
  stands-next s t line stands h = next-stands s t line s.part refl h stands
