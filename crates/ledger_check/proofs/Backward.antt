-- The lines of a valid answer lead from the start to the end.
use Rattle.std.proofs.Common.{◌≡◌, ◌⊎◌, ◌+◌, ◌<◌, Bool, true, false, not, List, [], ◌∷◌, ◌++◌, map, codes, length, append_assoc, Option, None, Some, Result, Ok, Err, refl, sym, ap, ◌∙◌, subst, ℤ, pos, arith, inl, inr, ⊎_elim, length-append}
use Rattle.std.specs.Prelude.{IsTrue, FitsSigned, slice_get, if◌then◌else◌, ◌||◌, ◌&&◌}
use Rattle.std.specs.Int.{w64}
use Rattle.std.specs.Ordering.{int_eq}
use Rattle.std.proofs.lemmas.Bool.{false≢true}
use Rattle.std.proofs.lemmas.List.{append-nil}
use Rattle.std.proofs.lemmas.Int.{ints}
use Rattle.model_meaning.specs.declared.model.Decl.{Decl}
use Rattle.model_meaning.specs.declared.model.Kind.{Kind}
use Rattle.model_meaning.specs.declared.model.Kind.TheVariants as kind
use Rattle.model_meaning.specs.declared.model.Model.{Model}
use Rattle.model_meaning.specs.Domains.{domain, in_domains}
use Rattle.model_meaning.specs.Integers.{is_member}
use Rattle.model_lower.specs.Lowering.{lowered_of}
use Rattle.ledger_text.specs.declared.line.Line.{Line}
use Rattle.ledger_text.specs.Steps.{step_text}
use Rattle.step_kernel.specs.declared.fault.StepFault.{StepFault}
use Rattle.step_kernel.specs.Kernel.{Kernel}
use Rattle.step_kernel.specs.Steps.{step, replayed}
use Rattle.proof_check.specs.declared.line.ProofLine.{ProofLine}
use Rattle.proof_check.specs.declared.fault.ProofFault.{ProofFault}
use Rattle.proof_check.specs.Lines.{line_bytes}
use Rattle.proof_check.specs.Lrat.{Proof, take_line, take_lines, behind}
use Rattle.answer_document.specs.declared.verdict.Verdict.{Verdict}
use Rattle.name_map.specs.ValueLines.{declared_word, declared_line, declared_lines}
use Rattle.answer_document.specs.Valid.{FitValues, AreReadableSteps, AreReadableLines}
use Rattle.line_texts.specs.LineByLine.{Lead}
use Rattle.ledger_check.specs.declared.part.Part.{Part}
use Rattle.ledger_check.specs.declared.part.Part.TheVariants as part
use Rattle.ledger_check.specs.declared.told.Told.TheVariants.{Truth, Number}
use Rattle.ledger_check.specs.declared.told.Told.{Told}
use Rattle.ledger_check.specs.Items.{told_word, told_line, IsToldValue, Value, Step, Derived, Standing}
use Rattle.ledger_check.specs.Tests.{told_number, told_of, with_value, with_kernel, with_first, with_second}
use Rattle.ledger_check.specs.Reading.{IsNext}

-- a value as it is told
abbrev pub told_as : Kind → ℤ → Told
told_as kind.Bool z = Truth (not (int_eq z (pos 0)))
told_as k z = Number z

record IsTold (k : Kind) (z : ℤ) : Type 0 where
  number : told_number k (told_as k z) ≡ Some z
  word : declared_word k z ≡ told_word (told_as k z)
  form : IsToldValue (told_as k z)

by-truth : (b : Bool) (z : ℤ) → int_eq z (pos 0) ≡ b → (z ≡ pos 0) ⊎ (z ≡ pos 1) → IsTold kind.Bool z
by-truth b z is either = ⊎_elim
    (λ none. subst (IsTold kind.Bool) (sym none) (record { number = refl; word = refl; form = tt }))
    (λ one. subst (IsTold kind.Bool) (sym one) (record { number = refl; word = refl; form = tt }))
    either

zero-or-one : (z : ℤ) → IsTrue (is_member z (domain kind.Bool)) → (z ≡ pos 0) ⊎ (z ≡ pos 1)
unfolding domain
zero-or-one z h = by (int_eq (pos 0) z) (int_eq (pos 1) z) refl refl h
  where
    same : (x y : ℤ) → int_eq x y ≡ true → y ≡ x
    same x y e = grind (arith, ints)

    by : (a b : Bool) → int_eq (pos 0) z ≡ a → int_eq (pos 1) z ≡ b → (a || (b || false)) ≡ true → (z ≡ pos 0) ⊎ (z ≡ pos 1)
    by true b e f g = inl (same (pos 0) z e)
    by false true e f g = inr (same (pos 1) z f)
    by false false e f g = absurd (false≢true g)

member-number : (k : Kind) (z : ℤ) → IsTrue (is_member z (domain k)) → (if is_member z (domain k) then Some z else None) ≡ Some z
member-number k z h = ap (λ b. if b then Some z else None) h

is-told : (k : Kind) (z : ℤ) → IsTrue (is_member z (domain k)) → FitsSigned w64 z → IsTold k z
is-told kind.Bool z h fits = by-truth (int_eq z (pos 0)) z refl (zero-or-one z h)
is-told k z h fits = record { number = member-number k z h; word = refl; form = fits }

both-true : (a b : Bool) → (a && b) ≡ true → (a ≡ true) × (b ≡ true)
both-true true b e = (refl, e)
both-true false b e = absurd (false≢true e)

ok-same : {X E : Type 0} (x y : X) → ◌≡◌ {A = Result X E} (Ok x) (Ok y) → x ≡ y
ok-same x y e = cc

err-ok : {X E : Type 0} (x : X) (e : E) → ◌≡◌ {A = Result X E} (Err e) (Ok x) → ⊥
err-ok x e h = cc

module _ (model : Model) where
  -- a standing behind lines
  abbrev pub standing : Part → Verdict → List ℤ → Kernel → Option Proof → Option Proof → Standing
  standing p v values k first second = record {
    part = p;
    verdict = v;
    values = values;
    kernel = k;
    entries = (lowered_of model).map.entries;
    first = first;
    second = second;
  }

  module _ (v : Verdict) (k : Kernel) where
    abbrev at_values : List ℤ → Standing
    at_values values = standing part.Values v values k None None

    value-next : (front : List ℤ) (d : Decl) (z : ℤ) → slice_get model.decls (length front) ≡ Some d → length front < length model.decls
        → IsTrue (is_member z (domain d.kind)) → FitsSigned w64 z → IsNext model (at_values front) (declared_line d z) (at_values (front ++ z ∷ []))
    value-next front d z turn left member fits =
        let told = is-told d.kind z member fits in
        record {
          item = Value (told_as d.kind z);
          says = ((left, told.form), ap (λ w. d.name ++ (codes " = " ++ w)) told.word ∙ sym (ap (λ o. told_line o (told_as d.kind z)) turn));
          taken = ap (λ o. with_value (at_values front) (told_of o (told_as d.kind z))) turn ∙ ap (with_value (at_values front)) told.number;
        }

    -- the values of the names that are left
    pub values-lead : (before ds : List Decl) (front zs : List ℤ) → model.decls ≡ before ++ ds → length front ≡ length before → in_domains ds zs ≡ true → FitValues zs
        → Lead (IsNext model) (at_values front) (declared_lines ds zs) (at_values (front ++ zs))
    values-lead before [] front [] all same inside fits = ap at_values (sym (append-nil front))
    values-lead before [] front (z ∷ zs) all same inside fits = absurd (false≢true inside)
    values-lead before (d ∷ ds) front [] all same inside fits = absurd (false≢true inside)
    values-lead before (d ∷ ds) front (z ∷ zs) all same inside fits =
        let both = both-true (is_member z (domain d.kind)) (in_domains ds zs) inside in
        let turn : slice_get model.decls (length front) ≡ Some d = ap (λ ds. slice_get ds (length front)) all ∙ ap (slice_get (before ++ d ∷ ds)) same ∙ turn-behind before d ds in
        let left : length front < length model.decls = omega (arith, same, ap length all, length-append before (d ∷ ds)) in (
          at_values (front ++ z ∷ []),
          value-next front d z turn left both.0 fits.0,
          subst (λ xs. Lead (IsNext model) (at_values (front ++ z ∷ [])) (declared_lines ds zs) (at_values xs)) (append_assoc front (z ∷ []) zs)
              (values-lead (before ++ d ∷ []) ds (front ++ z ∷ []) zs (all ∙ sym (append_assoc before (d ∷ []) ds)) (omega (arith, same, length-append front (z ∷ []), length-append before (d ∷ []))) both.1 fits.1),
        )
      where
        turn-behind : (before : List Decl) (d : Decl) (ds : List Decl) → slice_get (before ++ d ∷ ds) (length before) ≡ Some d
        turn-behind [] d ds = refl
        turn-behind (b ∷ before) d ds = turn-behind before d ds

  -- the steps of a ledger
  pub ledger-lead : (v : Verdict) (values : List ℤ) (k new : Kernel) (ledger : List Line) → AreReadableSteps ledger → replayed (Ok k) ledger ≡ Ok new
      → Lead (IsNext model) (standing part.Ledger v values k None None) (map step_text ledger) (standing part.Ledger v values new None None)
  ledger-lead v values k new [] readable leads = ap (λ x. standing part.Ledger v values x None None) (ok-same k new leads)
  ledger-lead v values k new (l ∷ ledger) readable leads = by (step k l) refl leads (λ m rest. ledger-lead v values m new ledger readable.1 rest)
    where
      failed : (ledger : List Line) (f : StepFault) → replayed (Err f) ledger ≡ Err f
      failed [] f = refl
      failed (x ∷ xs) f = refl

      by : (r : Result Kernel StepFault) → step k l ≡ r → replayed r ledger ≡ Ok new
          → ((m : Kernel) → replayed (Ok m) ledger ≡ Ok new → Lead (IsNext model) (standing part.Ledger v values m None None) (map step_text ledger) (standing part.Ledger v values new None None))
          → Lead (IsNext model) (standing part.Ledger v values k None None) (step_text l ∷ map step_text ledger) (standing part.Ledger v values new None None)
      by (Ok m) is rest others = (
        standing part.Ledger v values m None None,
        record { item = Step l; says = (readable.0, refl); taken = ap (with_kernel (standing part.Ledger v values k None None)) is },
        others m rest,
      )
      by (Err f) is rest others = absurd (err-ok new f (sym (failed ledger f) ∙ rest))

  -- the lines of a derivation
  pub proof-lead : (v : Verdict) (values : List ℤ) (k : Kernel) (p q : Proof) (proof : List ProofLine) → AreReadableLines proof → take_lines p proof ≡ Ok q
      → Lead (IsNext model) (standing part.Proof v values k (Some p) None) (map line_bytes proof) (standing part.Proof v values k (Some q) None)
  proof-lead v values k p q [] readable accepted = ap (λ x. standing part.Proof v values k (Some x) None) (ok-same p q accepted)
  proof-lead v values k p q (l ∷ proof) readable accepted = by (take_line p l) refl accepted (λ m rest. proof-lead v values k m q proof readable.1 rest)
    where
      by : (r : Result Proof ProofFault) → take_line p l ≡ r → behind r (λ x. take_lines x proof) ≡ Ok q
          → ((m : Proof) → take_lines m proof ≡ Ok q → Lead (IsNext model) (standing part.Proof v values k (Some m) None) (map line_bytes proof) (standing part.Proof v values k (Some q) None))
          → Lead (IsNext model) (standing part.Proof v values k (Some p) None) (line_bytes l ∷ map line_bytes proof) (standing part.Proof v values k (Some q) None)
      by (Ok m) is rest others = (
        standing part.Proof v values k (Some m) None,
        record { item = Derived l; says = (readable.0, refl); taken = ap (with_first (standing part.Proof v values k (Some p) None)) is },
        others m rest,
      )
      by (Err f) is rest others = absurd (err-ok q f rest)

  pub more-lead : (v : Verdict) (values : List ℤ) (k : Kernel) (first : Proof) (p q : Proof) (proof : List ProofLine) → AreReadableLines proof → take_lines p proof ≡ Ok q
      → Lead (IsNext model) (standing part.Second v values k (Some first) (Some p)) (map line_bytes proof) (standing part.Second v values k (Some first) (Some q))
  more-lead v values k first p q [] readable accepted = ap (λ x. standing part.Second v values k (Some first) (Some x)) (ok-same p q accepted)
  more-lead v values k first p q (l ∷ proof) readable accepted = by (take_line p l) refl accepted (λ m rest. more-lead v values k first m q proof readable.1 rest)
    where
      by : (r : Result Proof ProofFault) → take_line p l ≡ r → behind r (λ x. take_lines x proof) ≡ Ok q
          → ((m : Proof) → take_lines m proof ≡ Ok q → Lead (IsNext model) (standing part.Second v values k (Some first) (Some m)) (map line_bytes proof) (standing part.Second v values k (Some first) (Some q)))
          → Lead (IsNext model) (standing part.Second v values k (Some first) (Some p)) (line_bytes l ∷ map line_bytes proof) (standing part.Second v values k (Some first) (Some q))
      by (Ok m) is rest others = (
        standing part.Second v values k (Some first) (Some m),
        record { item = Derived l; says = (readable.0, refl); taken = ap (with_second (standing part.Second v values k (Some first) (Some p))) is },
        others m rest,
      )
      by (Err f) is rest others = absurd (err-ok q f rest)
