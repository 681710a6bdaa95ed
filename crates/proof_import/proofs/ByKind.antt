-- What a text is, by its kind.
use Rattle.std.proofs.Common.{◌≡◌, ℕ, Bool, true, false, List, sym, subst}
use Rattle.order_ints.specs.declared.cnf.Cnf.{Cnf}
use Rattle.drup_check.specs.DrupLines.{IsDrup, DrupFails}
use Rattle.drup_check.specs.Taken.{DrupFaultOf}
use Rattle.drup_check.specs.declared.fault.DrupFault.{DrupFault}
use Rattle.drup_check.specs.declared.fault.DrupFault.TheVariants.{Refused, Memory}
use Rattle.lrat_check.specs.Kinds.{is_lrat_text}
use Rattle.lrat_check.specs.LratLines.{IsLrat, LratFails}
use Rattle.proof_import.specs.Refutations.{RefutedBy, FailsAs, IsRefutation, RefutationFails, LratFaultOf, RefutationFaultOf}

module _ (cnf : Cnf) (text : List ℕ) (b : Bool) (kind : b ≡ is_lrat_text text) where
  pub with-hints : b ≡ true → IsLrat cnf text → IsRefutation cnf text
  with-hints e h = subst (λ (k : Bool). RefutedBy k cnf text) kind (subst (λ (k : Bool). RefutedBy k cnf text) (sym e) h)

  pub without-hints : b ≡ false → IsDrup cnf text → IsRefutation cnf text
  without-hints e h = subst (λ (k : Bool). RefutedBy k cnf text) kind (subst (λ (k : Bool). RefutedBy k cnf text) (sym e) h)

  pub hints-fault : b ≡ true → (f : DrupFault) → LratFaultOf cnf text f → RefutationFaultOf cnf text f
  hints-fault e (Refused line) h = subst (λ (k : Bool). FailsAs k cnf text line) kind (subst (λ (k : Bool). FailsAs k cnf text line) (sym e) h)
  hints-fault e Memory h = tt

  pub plain-fault : b ≡ false → (f : DrupFault) → DrupFaultOf cnf text f → RefutationFaultOf cnf text f
  plain-fault e (Refused line) h = subst (λ (k : Bool). FailsAs k cnf text line) kind (subst (λ (k : Bool). FailsAs k cnf text line) (sym e) h)
  plain-fault e Memory h = tt

  -- and back
  pub hints-of : b ≡ true → IsRefutation cnf text → IsLrat cnf text
  hints-of e h = subst (λ (k : Bool). RefutedBy k cnf text) e (subst (λ (k : Bool). RefutedBy k cnf text) (sym kind) h)

  pub plain-of : b ≡ false → IsRefutation cnf text → IsDrup cnf text
  plain-of e h = subst (λ (k : Bool). RefutedBy k cnf text) e (subst (λ (k : Bool). RefutedBy k cnf text) (sym kind) h)

  pub hints-fails : b ≡ true → (line : ℕ) → RefutationFails cnf text line → LratFails cnf text line
  hints-fails e line h = subst (λ (k : Bool). FailsAs k cnf text line) e (subst (λ (k : Bool). FailsAs k cnf text line) (sym kind) h)

  pub plain-fails : b ≡ false → (line : ℕ) → RefutationFails cnf text line → DrupFails cnf text line
  plain-fails e line h = subst (λ (k : Bool). FailsAs k cnf text line) e (subst (λ (k : Bool). FailsAs k cnf text line) (sym kind) h)
