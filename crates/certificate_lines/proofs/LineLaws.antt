-- A line of a certificate says one thing.
use Rattle.std.proofs.Common.{◌≡◌, ◌⊎◌, ℕ, ◌≤◌, ◌<◌, ◌^◌, Bool, true, false, ◌&&◌, List, [], ◌∷◌, codes, get_or, Result, Ok, refl, sym, ap, ◌∙◌, inl, inr, ℤ, pos, ◌≤ℤ◌, subst, to_z, of_z, arith}
use Rattle.std.specs.Prelude.{IsTrue, FitsSigned, unsigned_abs}
use Rattle.std.specs.Int.{w64, w128}
use Rattle.std.specs.Bool.{Decides}
use Rattle.std.proofs.lemmas.Bool.{true≢false}
use Rattle.std.proofs.lemmas.Int.{ints, to_z-of_z}
use Rattle.std.proofs.lemmas.Bool.Decides.{Decides-and}
use Rattle.model_meaning.specs.declared.model.Decl.{Decl}
use Rattle.model_meaning.specs.declared.model.Kind.{Kind}
use Rattle.model_meaning.specs.declared.model.Kind.TheVariants as kind
use Rattle.model_meaning.specs.Domains.{domain, in_domains}
use Rattle.model_meaning.specs.Integers.{is_member}
use Rattle.model_meaning.specs.Limits.{InLimit, AllInLimit, KindInLimit}
use Rattle.model_meaning.proofs.DomainLaws.{Decides-int_le, is_member-bool, AllInLimit-in_domains}
use Rattle.name_map.specs.Values.{is_boolean_kind}
use Rattle.name_map.specs.ValueLines.{IsTellable, value_line, declared_line}
use Rattle.name_map.proofs.LinesTell.{line_tells_number}
use Rattle.step_kernel.specs.declared.fault.StepFault.{StepFault}
use Rattle.step_kernel.specs.Kernel.{Kernel}
use Rattle.step_kernel.specs.Steps.{step}
use Rattle.proof_check.specs.declared.fault.ProofFault.{ProofFault}
use Rattle.proof_check.specs.Lrat.{Proof, take_line}
use Rattle.answer_document.proofs.LinesTell.{step-tells, step-begins}
use Rattle.answer_document.proofs.ProofLinesTell.{line-tells, line-begins}
use Rattle.certificate_lines.specs.CertificateLines.{IsValueLine, IsStepLine, IsDerivedLine}
use Rattle.certificate_lines.specs.Laws.{OneValue, OneStep, OneDerivation, NoStep, NoDerivation}

-- Values.

-- each number of a domain is in the limit
pub member-limit : (d : Decl) (z : ℤ) → KindInLimit d.kind → IsTrue (is_member z (domain d.kind)) → InLimit z
member-limit d z limit inside = AllInLimit-in_domains (d ∷ []) (z ∷ []) (limit, tt) (both (is_member z (domain d.kind)) inside) 0
  where
    both : (b : Bool) → b ≡ true → (b && true) ≡ true
    both true e = refl
    both false e = e

-- a Boolean has 0 or 1
pub bool-numbers : (z : ℤ) → is_member z (domain kind.Bool) ≡ true → (z ≡ pos 0) ⊎ (z ≡ pos 1)
bool-numbers z e =
    let b : (pos 0 ≤ℤ z) × (z ≤ℤ pos 1) = (Decides-and _ _ (Decides-int_le (pos 0) z) (Decides-int_le z (pos 1))).0 (is_member-bool z ∙ e) in
    by z b.0 b.1
  where
    by : (z : ℤ) → pos 0 ≤ℤ z → z ≤ℤ pos 1 → (z ≡ pos 0) ⊎ (z ≡ pos 1)
    by z low high = grind (arith, ints)

fits-wide : (z : ℤ) → unsigned_abs z ≤ 1073741824 → FitsSigned w128 z
fits-wide z h = grind (arith, ints)

tellable : (k : Kind) (z : ℤ) → is_member z (domain k) ≡ true → InLimit z → IsTellable (is_boolean_kind k) 1073741824 z
tellable kind.Bool z inside limit = bool-numbers z inside
tellable (kind.Range low high) z inside limit = (limit, fits-wide z limit)
tellable (kind.Listed values) z inside limit = (limit, fits-wide z limit)

-- a number of a domain in the limit can be told
pub value-tellable : (d : Decl) (z : ℤ) → KindInLimit d.kind → IsTrue (is_member z (domain d.kind)) → IsTellable (is_boolean_kind d.kind) 1073741824 z
value-tellable d z limit inside = tellable d.kind z inside (member-limit d z limit inside)

pub one-value : OneValue
one-value d line y z limit p q =
    line_tells_number d.name (is_boolean_kind d.kind) 1073741824 y z (value-tellable d y limit p.inside) (value-tellable d z limit q.inside) (sym p.spelled ∙ q.spelled)

-- the name and the kind of a declaration, as they were looked up
module _ (d : Decl) (line name : List ℕ) (boolean : Bool) (limit : KindInLimit d.kind) (named : name ≡ d.name) (is_kind : boolean ≡ is_boolean_kind d.kind) where
  as-told : (z : ℤ) → IsValueLine d line z → line ≡ value_line name boolean z
  as-told z h = h.spelled ∙ (λ i. value_line (sym named i) (sym is_kind i) z)

  can-be-told : (z : ℤ) → IsValueLine d line z → IsTellable boolean 1073741824 z
  can-be-told z h = subst (λ (b : Bool). IsTellable b 1073741824 z) (sym is_kind) (value-tellable d z limit h.inside)

  -- a line that tells no number tells no value
  pub no-value : ((z : ℤ) → IsTellable boolean 1073741824 z → line ≡ value_line name boolean z → ⊥) → (z : ℤ) → IsValueLine d line z → ⊥
  no-value none z h = none z (can-be-told z h) (as-told z h)

  fits-word : (z : ℤ) → unsigned_abs z ≤ 1073741824 → FitsSigned w64 z
  fits-word z h = omega (arith, ints)

  -- the number that a line tells is its value
  pub same-value : (number z : ℤ) → IsTellable boolean 1073741824 number → line ≡ value_line name boolean number → IsValueLine d line z → number ≡ z
  same-value number z told is h = line_tells_number name boolean 1073741824 number z told (can-be-told z h) (sym is ∙ as-told z h)

  -- and one out of the limit, or out of the domain, is none
  pub far-value : (number z : ℤ) → IsTellable boolean 1073741824 number → line ≡ value_line name boolean number → (InLimit number → ⊥) → IsValueLine d line z → ⊥
  far-value number z told is far h = far (subst InLimit (sym (same-value number z told is h)) (member-limit d z limit h.inside))

  pub other-value : (number value z : ℤ) (r : Bool) → IsTellable boolean 1073741824 number → line ≡ value_line name boolean number → value ≡ to_z w128 (of_z w128 number)
      → r ≡ is_member (to_z w64 (of_z w64 value)) (domain d.kind) → r ≡ false → IsValueLine d line z → ⊥
  other-value number value z r told is value_is member out h =
      let small : InLimit z = member-limit d z limit h.inside in
      let same : value ≡ z = value_is ∙ ap (λ (n : ℤ). to_z w128 (of_z w128 n)) (same-value number z told is h) ∙ to_z-of_z w128 z (fits-wide z small) in
      let one : to_z w64 (of_z w64 value) ≡ z = ap (λ (n : ℤ). to_z w64 (of_z w64 n)) same ∙ to_z-of_z w64 z (fits-word z small) in
      true≢false (sym h.inside ∙ ap (λ (n : ℤ). is_member n (domain d.kind)) (sym one) ∙ sym member ∙ out)

-- Steps.

same-ok : {X E : Type 0} (r : Result X E) (x y : X) → r ≡ Ok x → r ≡ Ok y → x ≡ y
same-ok r x y p q = cc

pub one-step : OneStep
one-step k s t line p q =
    let same = step-tells p.entry q.entry p.readable q.readable (sym p.spelled ∙ q.spelled) in
    same-ok (step k p.entry) s t p.made (ap (step k) same ∙ q.made)

pub no-step : NoStep
no-step k next h = step-begins h.entry (sym (ap (λ (w : List ℕ). get_or w 0 0) h.spelled))

-- Derivations.

pub one-derivation : OneDerivation
one-derivation p q r line a b =
    let same = line-tells a.entry b.entry a.bytes.0 b.bytes.0 (sym a.bytes.1 ∙ b.bytes.1) in
    same-ok (take_line p a.entry) q r a.continued (ap (take_line p) same ∙ b.continued)

pub no-derivation : NoDerivation
no-derivation p next h =
    let same = ap (λ (w : List ℕ). get_or w 0 0) h.bytes.1 in
    omega (arith, same, line-begins h.entry h.bytes.0)
