-- What a line of a document says, how it is spelled, and which may stand where.
use Rattle.std.specs.Prelude.{◌≡◌, ℕ, ◌<◌, ◌^◌, Bool, true, false, List, [], ◌++◌, codes}
use Rattle.std.specs.Prelude.{slice_get, length, ℤ, Option, Some, None, is_some, FitsSigned, IfSome}
use Rattle.std.specs.Prelude.{if◌then◌else◌}
use Rattle.std.specs.Int.{w64}
use Rattle.std.specs.Fmt.{signed_decimal}
use Rattle.order_ints.specs.declared.order_int.MapValue.{MapValue}
use Rattle.model_meaning.specs.declared.model.Decl.{Decl}
use Rattle.model_meaning.specs.declared.model.Goal.{Goal}
use Rattle.model_meaning.specs.declared.model.Model.{Model}
use Rattle.ledger_text.specs.declared.line.Line.{Line}
use Rattle.ledger_text.specs.Steps.{step_text, IsReadableStep}
use Rattle.proof_check.specs.declared.line.ProofLine.{ProofLine}
use Rattle.proof_check.specs.Lines.{line_bytes, IsReadable}
use Rattle.proof_check.specs.Lrat.{Proof}
use Rattle.step_kernel.specs.Kernel.{Kernel}
use Rattle.answer_document.specs.Goals.{has_second}
use Rattle.answer_document.specs.declared.verdict.Bounds.{Bounds}
use Rattle.answer_document.specs.declared.verdict.Verdict.{Verdict}
use Rattle.answer_document.specs.declared.verdict.Verdict.TheVariants.{Satisfiable, Unsatisfiable, Optimum, Unknown}
use Rattle.answer_document.specs.Verdicts.{verdict_text, is_certified}
use Rattle.answer_document.specs.DocumentText.{best_line}
use Rattle.ledger_check.specs.declared.told.Told.{Told}
use Rattle.ledger_check.specs.declared.told.Told.TheVariants.{Truth, Number}
use Rattle.ledger_check.specs.declared.part.Part.{Part}
use Rattle.ledger_check.specs.declared.part.Part.TheVariants as part

-- what a line says: the version, 2 or else 1; a verdict; the values of a best solution; the value of the next name;
-- that the ledger begins, or a step of it; that the derivation begins, or the second one, or a line of either; that the
-- document ends
pub data Item : Type 0 where
  Version : Bool → Item
  Answer : Verdict → Item
  Best : Bounds → Item
  Value : Told → Item
  LedgerBegins : Item
  Step : Line → Item
  ProofBegins : Item
  Derived : ProofLine → Item
  SecondBegins : Item
  End : Item

-- What is known of a document behind some of its lines: the part that comes next, the verdict, the values that were
-- read, the state of the compilation, what the names stand for in the lowered model, and how far the derivations have
-- come.
pub record Standing : Type 0 where
  pub part : Part
  pub verdict : Verdict
  pub values : List ℤ
  pub kernel : Kernel
  pub entries : List MapValue
  pub first : Option Proof
  pub second : Option Proof

-- the word of a value
abbrev pub told_word : Told → List ℕ
told_word (Truth b) = if b then codes "true" else codes "false"
told_word (Number z) = signed_decimal z

-- the line of a value, of the name whose turn it is
abbrev pub told_line : Option Decl → Told → List ℕ
told_line None t = []
told_line (Some d) t = d.name ++ (codes " = " ++ told_word t)

-- the line of what is said
abbrev pub item_line : Model → Standing → Item → List ℕ
item_line model s (Version two) = if two then codes "bee 2" else codes "bee 1"
item_line model s (Answer v) = verdict_text v
item_line model s (Best b) = best_line b
item_line model s (Value t) = told_line (slice_get model.decls (length s.values)) t
item_line model s LedgerBegins = codes "ledger"
item_line model s (Step line) = step_text line
item_line model s ProofBegins = codes "proof"
item_line model s (Derived line) = line_bytes line
item_line model s SecondBegins = codes "second"
item_line model s End = codes "end"

-- the numbers of bounds have 64 bits with their sign, and there is a second one exactly where the goal has two
-- objectives
abbrev pub HaveNumbers : Bool → Bounds → Type 0
HaveNumbers two b = FitsSigned w64 b.first × IfSome b.second (FitsSigned w64) × (is_some b.second ≡ two)

abbrev pub HasNumbers : Goal → Bounds → Type 0
HasNumbers goal b = HaveNumbers (has_second goal) b

-- a verdict as its line tells it: numbers have 64 bits, and the values of a best solution stand on a line of their own
abbrev pub IsVerdictLine : Bool → Verdict → Type 0
IsVerdictLine two Satisfiable = Unit {0}
IsVerdictLine two Unsatisfiable = Unit {0}
IsVerdictLine two (Optimum b) = HaveNumbers two b
IsVerdictLine two (Unknown n best) = (n < 2 ^ 64) × (best ≡ None)

-- a value as its word tells it
abbrev pub IsToldValue : Told → Type 0
IsToldValue (Truth b) = Unit {0}
IsToldValue (Number z) = FitsSigned w64 z

-- a name is left that has no value yet
abbrev pub IsNameLeft : Model → List ℤ → Type 0
IsNameLeft model values = length values < length model.decls

-- a second derivation may stand: behind an optimum of two objectives, and behind a best solution's two values
abbrev pub has_two : Bounds → Bool
has_two b = is_some b.second

abbrev pub may_have_second : Verdict → Bool
may_have_second Satisfiable = false
may_have_second Unsatisfiable = false
may_have_second (Optimum b) = has_two b
may_have_second (Unknown n None) = false
may_have_second (Unknown n (Some b)) = has_two b

-- and it has to, behind the optimum
abbrev pub must_have_second : Verdict → Bool
must_have_second Satisfiable = false
must_have_second Unsatisfiable = false
must_have_second (Optimum b) = has_two b
must_have_second (Unknown n best) = false

-- Which of these may be said in which part of a document.
abbrev pub MayStandIn : Model → Standing → Part → Item → Type 0
MayStandIn model s part.Version (Version two) = Unit {0}
MayStandIn model s part.Verdict (Answer v) = IsVerdictLine (has_second model.goal) v
MayStandIn model s part.Best (Best b) = HasNumbers model.goal b
MayStandIn model s part.Best LedgerBegins = Unit {0}
MayStandIn model s part.Values (Value t) = IsNameLeft model s.values × IsToldValue t
MayStandIn model s part.Values LedgerBegins = (IsNameLeft model s.values → ⊥) × (is_certified s.verdict ≡ true)
MayStandIn model s part.Values End = (IsNameLeft model s.values → ⊥) × (is_certified s.verdict ≡ false)
MayStandIn model s part.Unanswered LedgerBegins = Unit {0}
MayStandIn model s part.Ledger (Step line) = IsReadableStep line
MayStandIn model s part.Ledger ProofBegins = Unit {0}
MayStandIn model s part.Proof (Derived line) = IsReadable line
MayStandIn model s part.Proof SecondBegins = may_have_second s.verdict ≡ true
MayStandIn model s part.Proof End = must_have_second s.verdict ≡ false
MayStandIn model s part.Second (Derived line) = IsReadable line
MayStandIn model s part.Second End = Unit {0}
MayStandIn model s p item = ⊥

abbrev pub MayStand : Model → Standing → Item → Type 0
MayStand model s item = MayStandIn model s s.part item

-- a line says something that may stand next
abbrev pub Says : Model → Standing → List ℕ → Item → Type 0
Says model s line item = MayStand model s item × (line ≡ item_line model s item)
