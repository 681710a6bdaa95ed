-- What comes of the lines behind the named statements.
use Rattle.std.proofs.Common.{◌≡◌, ◌⊎◌, ◌↔◌, inl, inr, ℕ, ◌+◌, ◌<◌, ◌≤◌, Bool, true, false, List, [], ◌∷◌, ◌++◌, codes, length, ℤ, Option, None, Some, ⊎_elim, refl, sym, ap, ◌∙◌, subst, arith}
use Rattle.std.specs.Prelude.{IsTrue}
use Rattle.std.proofs.lemmas.Bool.{true≢false, cases_lt}
use Rattle.model_meaning.specs.Domains.{in_domains}
use Rattle.step_kernel.specs.Kernel.{Kernel}
use Rattle.step_kernel.specs.CnfOf.{cnf_of}
use Rattle.proof_check.specs.Lrat.{Proof, proof_of}
use Rattle.certificate_lines.specs.NextValues.{IsPushed}
use Rattle.certificate_lines.proofs.NextValue.{turn-less}
use Rattle.certificate_lines.specs.CertificateLines.{IsStepLine, IsDerivedLine, IsTakenTo}
use Rattle.conflict_text.specs.declared.part.Part.TheVariants as part
use Rattle.conflict_text.specs.ConflictLines.{Standing, without_line, IsConcluded, next_without, Continues, GoesOn, MeetsStatements, IsMet, NextIn}
use Rattle.conflict_text.proofs.Words.{first_byte}
use Rattle.conflict_text.proofs.OneLine.{some-same, derived-letter, continues-letter, no-turn}
use Rattle.conflict_text.proofs.WholeText.{all-valued}
use Rattle.conflict_check.specs.declared.reading.Place.{Place}
use Rattle.conflict_check.specs.declared.reading.Place.TheVariants as place
use Rattle.conflict_check.specs.Readings.{part_at}

none-some : {A : Type 0} (o : Option A) (x : A) → o ≡ None → o ≡ Some x → ⊥
none-some o x p q = cc

-- what a test says of a line
pub not-taken : {S : Type 0} (Next : S → Type 0) (t : S) (b : Bool) → b ≡ false → IsTakenTo Next t b → (u : S) → Next u → ⊥
not-taken Next t b e h = subst (IsTakenTo Next t) e h

pub is-taken : {S : Type 0} (Next : S → Type 0) (t : S) (b : Bool) → b ≡ true → IsTakenTo Next t b → Next t
is-taken Next t b e h = subst (IsTakenTo Next t) e h

module _ (s : Standing) (line : List ℕ) where
  -- the ledger

  pub no-kernel : s.kernel ≡ None → (u : Standing) → NextIn s part.Ledger line u → ⊥
  no-kernel none u (inl n) = none-some s.kernel n.now none n.at
  no-kernel none u (inr n) = none-some s.kernel n.last none n.at

  pub proof-begun : (t : Standing) (k : Kernel) (p : Proof) → line ≡ codes "proof" → s.kernel ≡ Some k → p ≡ proof_of (cnf_of k) → t ≡ record s { part = part.Proof; proof = Some p } → NextIn s part.Ledger line t
  proof-begun t k p is at made behind =
      inr (record { last = k; at = at; spelled = is; behind = behind ∙ ap (λ (q : Proof). record s { part = part.Proof; proof = Some q }) made })

  pub step-taken : (t : Standing) (b : Bool) (now next : Kernel) → s.kernel ≡ Some now → (line ≡ codes "proof" → ⊥) → t ≡ record s { kernel = Some next } → IsTakenTo (IsStepLine now line) next b
      → IsTakenTo (NextIn s part.Ledger line) t b
  step-taken t true now next at other behind h = inl (record { now = now; at = at; next = next; step = h; behind = behind })
  step-taken t false now next at other behind none = refused
    where
      refused : (u : Standing) → NextIn s part.Ledger line u → ⊥
      refused u (inl n) = none n.next (subst (λ (k : Kernel). IsStepLine k line n.next) (some-same n.now now s.kernel n.at at) n.step)
      refused u (inr n) = other n.spelled

  -- the derivation

  pub no-proof : s.proof ≡ None → (u : Standing) → NextIn s part.Proof line u → ⊥
  no-proof none u (inl n) = none-some s.proof n.now none n.at
  no-proof none u (inr n) = subst (λ (o : Option Proof). IsConcluded s.verdict o) none n.0

  pub derived-taken : (t : Standing) (b : Bool) (now next : Proof) → s.proof ≡ Some now → (58 ≤ first_byte line → ⊥) → t ≡ record s { proof = Some next } → IsTakenTo (IsDerivedLine now line) next b
      → IsTakenTo (NextIn s part.Proof line) t b
  derived-taken t true now next at small behind h = inl (record { now = now; at = at; next = next; derived = h; behind = behind })
  derived-taken t false now next at small behind none = refused
    where
      refused : (u : Standing) → NextIn s part.Proof line u → ⊥
      refused u (inl n) = none n.next (subst (λ (p : Proof). IsDerivedLine p line n.next) (some-same n.now now s.proof n.at at) n.derived)
      refused u (inr n) = small (continues-letter s u (next_without s.verdict s.conflict s.begun) line n.1)

  pub not-concluded : 58 ≤ first_byte line → (IsConcluded s.verdict s.proof → ⊥) → (u : Standing) → NextIn s part.Proof line u → ⊥
  not-concluded letter unshown u (inl n) = derived-letter n.now n.next line n.derived letter
  not-concluded letter unshown u (inr n) = unshown n.0

  pub concluded-goes : (t : Standing) (b : Bool) → 58 ≤ first_byte line → IsConcluded s.verdict s.proof → IsTakenTo (GoesOn s line) t b → IsTakenTo (NextIn s part.Proof line) t b
  concluded-goes t true letter shown h = inr (shown, h)
  concluded-goes t false letter shown none = refused
    where
      refused : (u : Standing) → NextIn s part.Proof line u → ⊥
      refused u (inl n) = derived-letter n.now n.next line n.derived letter
      refused u (inr n) = none u n.1

  -- the line with which the next assignment begins, or the text ends

  pub ends-on : (t : Standing) (o : Option ℕ) → o ≡ next_without s.verdict s.conflict s.begun → o ≡ None → line ≡ codes "end" → t ≡ record s { part = part.End } → GoesOn s line t
  ends-on t o is none end behind = subst (λ (o : Option ℕ). Continues s o line t) (sym none ∙ is) (end, behind)

  pub ends-not : (o : Option ℕ) → o ≡ next_without s.verdict s.conflict s.begun → o ≡ None → (line ≡ codes "end" → ⊥) → (t : Standing) → GoesOn s line t → ⊥
  ends-not o is none other t h = other (subst (λ (o : Option ℕ). Continues s o line t) (sym is ∙ none) h).0

  pub begins-on : (t : Standing) (o : Option ℕ) (n : ℕ) → o ≡ next_without s.verdict s.conflict s.begun → o ≡ Some n → line ≡ without_line n
      → t ≡ record s { part = part.Values; now = n; begun = s.begun + 1; values = [] } → GoesOn s line t
  begins-on t o n is some without behind = subst (λ (o : Option ℕ). Continues s o line t) (sym some ∙ is) (without, behind)

  pub begins-not : (o : Option ℕ) (n : ℕ) → o ≡ next_without s.verdict s.conflict s.begun → o ≡ Some n → (line ≡ without_line n → ⊥) → (t : Standing) → GoesOn s line t → ⊥
  begins-not o n is some other t h = other (subst (λ (o : Option ℕ). Continues s o line t) (sym is ∙ some) h).0

  -- values

  pub value-taken : (t : Standing) (b : Bool) (more : List ℤ) → length s.values < length s.model.decls → t ≡ record s { values = more } → IsTakenTo (IsPushed s.model s.values line) more b → IsTakenTo (NextIn s part.Values line) t b
  value-taken t true more wants behind pushed =
      inl (record {
        decl = pushed.told.decl;
        turn = pushed.told.turn;
        value = pushed.value;
        told = pushed.told.told;
        behind = behind ∙ ap (λ (x : List ℤ). record s { values = x }) pushed.behind;
      })
  value-taken t false more wants behind none = refused
    where
      refused : (u : Standing) → NextIn s part.Values line u → ⊥
      refused u (inl n) = none (s.values ++ n.value ∷ []) (record { value = n.value; told = record { decl = n.decl; turn = n.turn; told = n.told }; behind = refl })
      refused u (inr n) = let all = n.0.all in omega (arith, all, wants)

  pub not-met : length s.model.decls ≤ length s.values → (IsMet s → ⊥) → (u : Standing) → NextIn s part.Values line u → ⊥
  not-met full unmet u (inl n) = let less = turn-less s.model.decls (length s.values) n.decl n.turn in omega (arith, less, full)
  not-met full unmet u (inr n) = unmet n.0

  pub met-goes : (t : Standing) (b : Bool) → IsMet s → IsTakenTo (GoesOn s line) t b → IsTakenTo (NextIn s part.Values line) t b
  met-goes t true met h = inr (met, h)
  met-goes t false met none = refused
    where
      refused : (u : Standing) → NextIn s part.Values line u → ⊥
      refused u (inl n) = no-turn s.model.decls (length s.values) n.decl n.turn met.all
      refused u (inr n) = none u n.1

pub met : (s : Standing) → IsTrue (in_domains s.model.decls s.values) → MeetsStatements s s.verdict → IsMet s
met s inside holds = record { all = all-valued s.model.decls s.values inside; in_domains = inside; holds = holds }

pub not-inside : (s : Standing) → in_domains s.model.decls s.values ≡ false → IsTrue false ↔ IsMet s
not-inside s out = (λ e. absurd (true≢false (sym e)), λ m. absurd (true≢false (sym m.in_domains ∙ out)))

-- a test that fails
pub no-more : (a n : ℕ) (b : Bool) → (IsTrue b ↔ (a < n)) → b ≡ false → n ≤ a
no-more a n b test e = ⊎_elim (λ (l : a < n). absurd (true≢false (sym (test.1 l) ∙ e))) (λ (l : n ≤ a). l) (cases_lt a n)

-- the end

pub at-end : (p : Place) → p ≡ place.End → part_at p ≡ part.End
at-end p e = ap part_at e

pub ends-at : (p : Place) → part_at p ≡ part.End → p ≡ place.End
ends-at place.Ledger e = absurd (cc)
ends-at place.Proof e = absurd (cc)
ends-at place.Values e = absurd (cc)
ends-at place.End e = refl
