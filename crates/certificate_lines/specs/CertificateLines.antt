-- Which line may stand next in a ledger or a derivation, and which tells the value of a name, whatever the text around
-- it is.
use Rattle.std.specs.Prelude.{◌≡◌, ℕ, Bool, true, false, List, ℤ, Result, Ok, IsTrue}
use Rattle.order_ints.specs.declared.cnf.Cnf.{Cnf}
use Rattle.model_meaning.specs.declared.model.Decl.{Decl}
use Rattle.model_meaning.specs.Domains.{domain}
use Rattle.model_meaning.specs.Integers.{is_member}
use Rattle.name_map.specs.ValueLines.{declared_line}
use Rattle.ledger_text.specs.declared.line.Line.{Line}
use Rattle.ledger_text.specs.Steps.{step_text, IsReadableStep}
use Rattle.step_kernel.specs.Kernel.{Kernel}
use Rattle.step_kernel.specs.Steps.{step, replay}
use Rattle.proof_check.specs.declared.line.ProofLine.{ProofLine}
use Rattle.proof_check.specs.Lines.{AreBytesOf}
use Rattle.proof_check.specs.Lrat.{Proof, proof_of, take_line, take_lines}

-- the line tells the value of a name, one of its domain
pub record IsValueLine (d : Decl) (line : List ℕ) (z : ℤ) : Type 0 where
  pub inside : IsTrue (is_member z (domain d.kind))
  pub spelled : line ≡ declared_line d z

-- the line is one of a ledger, and makes a step from one state to the next
pub record IsStepLine (k : Kernel) (line : List ℕ) (next : Kernel) : Type 0 where
  pub entry : Line
  pub readable : IsReadableStep entry
  pub spelled : line ≡ step_text entry
  pub made : step k entry ≡ Ok next

-- the line is one of a derivation, and continues the proof
pub record IsDerivedLine (p : Proof) (line : List ℕ) (next : Proof) : Type 0 where
  pub entry : ProofLine
  pub bytes : AreBytesOf entry line
  pub continued : take_line p entry ≡ Ok next

-- a line leads to what stands behind it, or leads nowhere
abbrev pub IsTakenTo : {S : Type 0} → (S → Type 0) → S → Bool → Type 0
IsTakenTo Next behind true = Next behind
IsTakenTo {S} Next behind false = (other : S) → Next other → ⊥

-- a ledger leads from one state to another
pub record IsLedger (start last : Kernel) : Type 0 where
  pub ledger : List Line
  pub leads : replay start ledger ≡ Ok last

-- a derivation from a CNF has come so far
pub record IsDerivation (cnf : Cnf) (reached : Proof) : Type 0 where
  pub lines : List ProofLine
  pub accepted : take_lines (proof_of cnf) lines ≡ Ok reached
