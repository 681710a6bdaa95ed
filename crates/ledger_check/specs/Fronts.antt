-- What is known of a document behind its first lines, part by part.
use Rattle.std.specs.Prelude.{◌≡◌, ℕ, ◌+◌, true, List, [], ◌∷◌, ◌++◌, codes}
use Rattle.std.specs.Prelude.{map, ℤ, Option, None, Some, Ok, IsTrue}
use Rattle.model_meaning.specs.declared.model.Assignment.{Assignment}
use Rattle.model_meaning.specs.declared.model.Decl.{Decl}
use Rattle.model_meaning.specs.declared.model.Model.{Model}
use Rattle.model_meaning.specs.Domains.{domain}
use Rattle.model_meaning.specs.Integers.{is_member}
use Rattle.ledger_text.specs.declared.line.Line.{Line}
use Rattle.ledger_text.specs.Steps.{step_text}
use Rattle.model_lower.specs.Lowering.{lowered_of}
use Rattle.step_kernel.specs.Steps.{replay}
use Rattle.step_kernel.specs.CnfOf.{cnf_of}
use Rattle.proof_check.specs.declared.line.ProofLine.{ProofLine}
use Rattle.proof_check.specs.Lines.{line_bytes}
use Rattle.proof_check.specs.Lrat.{Proof, proof_of, take_lines}
use Rattle.answer_document.specs.declared.verdict.Bounds.{Bounds}
use Rattle.answer_document.specs.declared.verdict.Verdict.{Verdict}
use Rattle.answer_document.specs.declared.verdict.Verdict.TheVariants.{Satisfiable, Unsatisfiable, Optimum, Unknown}
use Rattle.answer_document.specs.declared.document.Document.{Document}
use Rattle.answer_document.specs.Verdicts.{verdict_text, is_certified, VerdictFits}
use Rattle.answer_document.specs.DocumentText.{version_line, best_lines, document_lines}
use Rattle.name_map.specs.ValueLines.{declared_lines}
use Rattle.answer_document.specs.Valid.{start_of, stated, FitNumbers, FitValues, AreReadableSteps, AreReadableLines}
use Rattle.answer_document.specs.Valid.{IsReadableDocument, AnswerHolds, IsCertified, numbers_given}
use Rattle.ledger_check.specs.declared.part.Part.{Part}
use Rattle.ledger_check.specs.declared.part.Part.TheVariants as part
use Rattle.ledger_check.specs.Items.{Standing, may_have_second}
use Rattle.ledger_check.specs.Tests.{is_first_shown, fixed_cnf}

-- the lines up to the last value
abbrev pub head_lines : Model → Verdict → List ℤ → List (List ℕ)
head_lines model v values = version_line model.goal ∷ verdict_text v
    ∷ (best_lines v ++ declared_lines model.decls values)

-- the lines of the derivations, each behind the line that begins it
abbrev pub ledger_lines : List Line → List (List ℕ)
ledger_lines ledger = codes "ledger" ∷ map step_text ledger

abbrev pub proof_lines : List ProofLine → List (List ℕ)
proof_lines proof = codes "proof" ∷ map line_bytes proof

abbrev pub more_lines : List ProofLine → List (List ℕ)
more_lines proof = codes "second" ∷ map line_bytes proof

-- an assignment, where the verdict has one
abbrev pub answer_of : Verdict → List ℤ → Option (List ℤ)
answer_of Satisfiable values = Some values
answer_of Unsatisfiable values = None
answer_of (Optimum b) values = Some values
answer_of (Unknown n None) values = None
answer_of (Unknown n (Some b)) values = Some values

abbrev pub assignment_of : Verdict → List ℤ → Option Assignment
assignment_of Satisfiable values = Some (record { values = values })
assignment_of Unsatisfiable values = None
assignment_of (Optimum b) values = Some (record { values = values })
assignment_of (Unknown n None) values = None
assignment_of (Unknown n (Some b)) values = Some (record { values = values })

-- the values so far are those of the first names, each in its domain
abbrev pub AreMembers : List Decl → List ℤ → Type 0
AreMembers ds [] = Unit {0}
AreMembers [] (z ∷ zs) = ⊥
AreMembers (d ∷ ds) (z ∷ zs) = IsTrue (is_member z (domain d.kind)) × AreMembers ds zs

-- nothing was derived yet
pub record IsFresh (model : Model) (s : Standing) : Type 0 where
  pub kernel : s.kernel ≡ start_of model
  pub entries : s.entries ≡ (lowered_of model).map.entries
  pub first : s.first ≡ None
  pub second : s.second ≡ None

-- a verdict fits the goal, and its numbers have 64 bits
pub record IsFitting (model : Model) (v : Verdict) : Type 0 where
  pub fits : VerdictFits model.goal v
  pub numbers : FitNumbers (stated v)

-- a verdict that has an assignment
abbrev pub HasAnswer : Verdict → Type 0
HasAnswer Satisfiable = Unit {0}
HasAnswer Unsatisfiable = ⊥
HasAnswer (Optimum b) = Unit {0}
HasAnswer (Unknown n None) = ⊥
HasAnswer (Unknown n (Some b)) = Unit {0}

-- a verdict that has a certificate, and the values, are an answer
pub record IsAnswered (model : Model) (v : Verdict) (values : List ℤ) : Type 0 where
  pub fitting : IsFitting model v
  pub holds : AnswerHolds model v (answer_of v values)
  pub fit : FitValues values
  pub none : answer_of v values ≡ None → values ≡ []
  pub certified : is_certified v ≡ true

pub record AtStart (model : Model) (lines : List (List ℕ)) (s : Standing) : Type 0 where
  pub fresh : IsFresh model s
  pub values : s.values ≡ []
  pub read : lines ≡ []

pub record AtVerdict (model : Model) (lines : List (List ℕ)) (s : Standing) : Type 0 where
  pub fresh : IsFresh model s
  pub values : s.values ≡ []
  pub read : lines ≡ version_line model.goal ∷ []

-- behind a verdict, before an assignment or where there is none
pub record AtBest (model : Model) (lines : List (List ℕ)) (s : Standing) : Type 0 where
  pub fresh : IsFresh model s
  pub values : s.values ≡ []
  pub count : ℕ
  pub verdict : s.verdict ≡ Unknown count None
  pub fitting : IsFitting model s.verdict
  pub read : lines ≡ head_lines model s.verdict s.values

pub record AtUnanswered (model : Model) (lines : List (List ℕ)) (s : Standing) : Type 0 where
  pub fresh : IsFresh model s
  pub values : s.values ≡ []
  pub verdict : s.verdict ≡ Unsatisfiable
  pub read : lines ≡ head_lines model s.verdict s.values

pub record AtValues (model : Model) (lines : List (List ℕ)) (s : Standing) : Type 0 where
  pub fresh : IsFresh model s
  pub answer : HasAnswer s.verdict
  pub fitting : IsFitting model s.verdict
  pub members : AreMembers model.decls s.values
  pub values : FitValues s.values
  pub read : lines ≡ head_lines model s.verdict s.values

pub record AtLedger (model : Model) (lines : List (List ℕ)) (s : Standing) : Type 0 where
  pub answered : IsAnswered model s.verdict s.values
  pub entries : s.entries ≡ (lowered_of model).map.entries
  pub ledger : List Line
  pub readable : AreReadableSteps ledger
  pub leads : replay (start_of model) ledger ≡ Ok s.kernel
  pub first : s.first ≡ None
  pub second : s.second ≡ None
  pub read : lines ≡ head_lines model s.verdict s.values ++ ledger_lines ledger

pub record AtProof (model : Model) (lines : List (List ℕ)) (s : Standing) : Type 0 where
  pub answered : IsAnswered model s.verdict s.values
  pub entries : s.entries ≡ (lowered_of model).map.entries
  pub ledger : List Line
  pub readable : AreReadableSteps ledger
  pub leads : replay (start_of model) ledger ≡ Ok s.kernel
  pub proof : List ProofLine
  pub readable_proof : AreReadableLines proof
  pub reached : Proof
  pub first : s.first ≡ Some reached
  pub accepted : take_lines (proof_of (cnf_of s.kernel)) proof ≡ Ok reached
  pub second : s.second ≡ None
  pub read : lines ≡ head_lines model s.verdict s.values ++ (ledger_lines ledger ++ proof_lines proof)

pub record AtSecond (model : Model) (lines : List (List ℕ)) (s : Standing) : Type 0 where
  pub answered : IsAnswered model s.verdict s.values
  pub entries : s.entries ≡ (lowered_of model).map.entries
  pub ledger : List Line
  pub readable : AreReadableSteps ledger
  pub leads : replay (start_of model) ledger ≡ Ok s.kernel
  pub proof : List ProofLine
  pub readable_proof : AreReadableLines proof
  pub reached : Proof
  pub first : s.first ≡ Some reached
  pub accepted : take_lines (proof_of (cnf_of s.kernel)) proof ≡ Ok reached
  pub bounds : Bounds
  pub stated : stated s.verdict ≡ Some bounds
  pub two : may_have_second s.verdict ≡ true
  pub shown : is_first_shown model s s.first bounds.first ≡ true
  pub more : List ProofLine
  pub readable_more : AreReadableLines more
  pub furthest : Proof
  pub second : s.second ≡ Some furthest
  pub accepted_more : take_lines (proof_of (fixed_cnf model s bounds.first)) more ≡ Ok furthest
  pub read : lines ≡ head_lines model s.verdict s.values
      ++ (ledger_lines ledger ++ (proof_lines proof ++ more_lines more))

-- the lines are those of a document that says a valid answer
pub record AtEnd (model : Model) (lines : List (List ℕ)) (s : Standing) : Type 0 where
  pub document : Document
  pub read : lines ≡ document_lines model.decls model.goal document
  pub readable : IsReadableDocument document
  pub verdict : document.verdict ≡ s.verdict
  pub assignment : numbers_given document.assignment ≡ answer_of s.verdict s.values
  pub fits : VerdictFits model.goal s.verdict
  pub answer : AnswerHolds model s.verdict (answer_of s.verdict s.values)
  pub certificate : IsCertified model document s.verdict

abbrev pub KnownIn : Part → Model → List (List ℕ) → Standing → Type 0
KnownIn part.Version model lines s = AtStart model lines s
KnownIn part.Verdict model lines s = AtVerdict model lines s
KnownIn part.Best model lines s = AtBest model lines s
KnownIn part.Values model lines s = AtValues model lines s
KnownIn part.Unanswered model lines s = AtUnanswered model lines s
KnownIn part.Ledger model lines s = AtLedger model lines s
KnownIn part.Proof model lines s = AtProof model lines s
KnownIn part.Second model lines s = AtSecond model lines s
KnownIn part.End model lines s = AtEnd model lines s

abbrev pub Known : Model → List (List ℕ) → Standing → Type 0
Known model lines s = KnownIn s.part model lines s
