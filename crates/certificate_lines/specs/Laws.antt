-- What the lines of certificates say, and what they come to.
use Rattle.std.specs.Prelude.{◌≡◌, ℕ, List, codes, ℤ}
use Rattle.order_ints.specs.declared.cnf.Cnf.{Cnf}
use Rattle.model_meaning.specs.declared.model.Decl.{Decl}
use Rattle.model_meaning.specs.Limits.{KindInLimit}
use Rattle.step_kernel.specs.Kernel.{Kernel}
use Rattle.proof_check.specs.Lrat.{Proof}
use Rattle.certificate_lines.specs.CertificateLines.{IsValueLine, IsStepLine, IsDerivedLine, IsLedger, IsDerivation}

-- a line tells one value of a name whose numbers are in the limit
abbrev pub OneValue : Type 0
OneValue = (d : Decl) (line : List ℕ) (y z : ℤ) → KindInLimit d.kind → IsValueLine d line y → IsValueLine d line z
    → y ≡ z

-- a line leads to one state
abbrev pub OneStep : Type 0
OneStep = (k s t : Kernel) (line : List ℕ) → IsStepLine k line s → IsStepLine k line t → s ≡ t

-- and continues a derivation in one way
abbrev pub OneDerivation : Type 0
OneDerivation = (p q r : Proof) (line : List ℕ) → IsDerivedLine p line q → IsDerivedLine p line r → q ≡ r

-- the word that begins a derivation makes no step
abbrev pub NoStep : Type 0
NoStep = (k next : Kernel) → IsStepLine k (codes "proof") next → ⊥

-- and the one that ends a text continues no derivation
abbrev pub NoDerivation : Type 0
NoDerivation = (p next : Proof) → IsDerivedLine p (codes "end") next → ⊥

-- a ledger, and one line more
abbrev pub StepsLead : Type 0
StepsLead = (start k next : Kernel) (line : List ℕ) → IsLedger start k → IsStepLine k line next → IsLedger start next

-- a derivation, and one line more
abbrev pub DerivationLeads : Type 0
DerivationLeads = (cnf : Cnf) (p next : Proof) (line : List ℕ) → IsDerivation cnf p → IsDerivedLine p line next
    → IsDerivation cnf next
