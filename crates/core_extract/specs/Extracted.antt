-- What an answer to a part gives, and what is extracted from a model.
use Rattle.std.specs.Prelude.{◌≡◌, ℕ, ◌<◌, Bool, List, [], ◌∷◌, length, Option, Some, None}
use Rattle.core_forms.specs.declared.equation.Equation.{Equation}
use Rattle.core_forms.specs.declared.form.Core.{Core}
use Rattle.ledger_text.specs.declared.line.Line.{Line}
use Rattle.proof_check.specs.declared.line.ProofLine.{ProofLine}
use Rattle.model_meaning.specs.declared.model.Model.{Model}
use Rattle.model_meaning.specs.declared.model.Assignment.{Assignment}
use Rattle.model_meaning.specs.Solutions.{IsSolution}
use Rattle.model_meaning.specs.WellTyped.{WellTyped}
use Rattle.model_lower.specs.declared.fault.LowerFault.{LowerFault}
use Rattle.model_lower.specs.declared.fault.LowerFault.TheVariants.{TooHeavy, Memory}
use Rattle.model_lower.specs.Weighed.{most_weight}
use Rattle.model_parts.specs.Only.{numbers_of, only}
use Rattle.model_parts.specs.CoreWeight.{core_weight}
use Rattle.answer_document.specs.declared.verdict.Verdict.{Verdict}
use Rattle.answer_document.specs.declared.verdict.Verdict.TheVariants as verdict
use Rattle.answer_document.specs.declared.document.Document.{Document}
use Rattle.search_options.specs.declared.options.SearchOptions.{SearchOptions}
use Rattle.decode_minimize.specs.Answers.{IsAnswer}
use Rattle.conflict_text.specs.declared.verdict.CoreVerdict.{CoreVerdict}
use Rattle.conflict_text.specs.declared.verdict.CoreVerdict.TheVariants as conflict
use Rattle.conflict_text.specs.declared.document.ConflictDocument.{ConflictDocument}
use Rattle.conflict_text.specs.ConflictDocuments.{IsConflictDocument, AreWhole}
use Rattle.core_extract.specs.declared.reply.Certificate.{Certificate}
use Rattle.core_extract.specs.declared.reply.Reply.{Reply}
use Rattle.core_extract.specs.declared.reply.Reply.TheVariants.{Solved, Refuted, Spent}
use Rattle.core_extract.specs.declared.reduction.Reduction.{Reduction}
use Rattle.core_extract.specs.declared.reduction.SpentPart.{SpentPart}
use Rattle.core_extract.specs.declared.reduction.Attempt.{Attempt}
use Rattle.core_extract.specs.declared.reduction.Attempt.TheVariants as attempt
use Rattle.core_extract.specs.declared.settling.Progress.{Progress}
use Rattle.core_extract.specs.declared.settling.Turn.{Turn}
use Rattle.core_extract.specs.declared.settling.Turn.TheVariants as turn
use Rattle.core_extract.specs.declared.choosing.Choice.{Choice}
use Rattle.core_extract.specs.declared.choosing.Choice.TheVariants as choice
use Rattle.core_extract.specs.declared.trimming.Trimming.{Trimming}
use Rattle.core_extract.specs.declared.trimming.Trimming.TheVariants as trimming
use Rattle.core_extract.specs.declared.choosing.Leaving.{Leaving}
use Rattle.core_extract.specs.declared.choosing.Leaving.TheVariants as leaving
use Rattle.core_extract.specs.declared.extracting.ExtractedConflict.{ExtractedConflict}
use Rattle.core_extract.specs.Parts.{satisfying, whole_of, part_of, IsFit, AreFound, numbers_before}

-- ledger and derivation are those of an answer to a model, with this verdict
pub record IsAnswered (told : Core → Equation → Type 0) (model : Model) (options : SearchOptions) (ledger : List Line)
    (proof : List ProofLine) (v : Verdict) : Type 0 where
  pub document : Document
  pub before : ℕ
  pub after : ℕ
  pub is : IsAnswer told model options document before after
  pub verdict : document.verdict ≡ v
  pub ledger_is : document.ledger ≡ ledger
  pub proof_is : document.proof ≡ proof

-- it has no solution; or the search was given up, and the budget is spent
abbrev pub IsRefutation : (Core → Equation → Type 0) → Model → SearchOptions → Certificate → Type 0
IsRefutation told model options c = IsAnswered told model options c.ledger c.proof verdict.Unsatisfiable

abbrev pub IsGivenUp : (Core → Equation → Type 0) → Model → SearchOptions → Certificate → Type 0
IsGivenUp told model options c = IsAnswered told model options c.ledger c.proof (verdict.Unknown options.budget None)

abbrev pub IsReply : (Core → Equation → Type 0) → Model → SearchOptions → Reply → Type 0
IsReply told model options (Solved a) = IsSolution model a.values × (length model.decls ≡ length a.values)
IsReply told model options (Refuted c) = IsRefutation told model options c
IsReply told model options (Spent c) = IsGivenUp told model options c

-- what a document comes to
abbrev pub certificate_of : Document → Certificate
certificate_of d = record { ledger = d.ledger; proof = d.proof }

abbrev pub reply_with : Certificate → Verdict → Option Assignment → Reply
reply_with c verdict.Satisfiable None = Spent c
reply_with c verdict.Satisfiable (Some a) = Solved a
reply_with c verdict.Unsatisfiable a = Refuted c
reply_with c (verdict.Optimum b) None = Spent c
reply_with c (verdict.Optimum b) (Some a) = Solved a
reply_with c (verdict.Unknown n best) a = Spent c

abbrev pub reply_of : Document → Reply
reply_of d = reply_with (certificate_of d) d.verdict d.assignment

-- a part that has no solution
pub record IsReduced (told : Core → Equation → Type 0) (options : SearchOptions) (r : Reduction) : Type 0 where
  pub fit : IsFit r.model
  pub out : r.model.out.items ≡ r.out.items
  pub refutation : IsRefutation told (part_of (whole_of r.model) r.out.items) options r.certificate

-- one is of the same model as another, and has as many marks
pub record IsSameModel (old new : Reduction) : Type 0 where
  pub whole : whole_of new.model ≡ whole_of old.model
  pub count : length new.out.items ≡ length old.out.items

-- the search for a part of a model was given up
pub record IsSpentPart (told : Core → Equation → Type 0) (model : Model) (options : SearchOptions) (s : SpentPart)
    : Type 0 where
  pub out : List Bool
  pub numbers : s.statements ≡ numbers_of (part_of model out).stmts
  pub given_up : IsGivenUp told (part_of model out) options s.certificate

-- another part was asked of: it has no solution, and takes the place of the one before; or this one stays
abbrev pub IsAttempt : (Core → Equation → Type 0) → SearchOptions → Reduction → List Bool → Attempt → Type 0
IsAttempt told options old out (attempt.Smaller r) =
    IsReduced told options r × (whole_of r.model ≡ whole_of old.model) × (r.out.items ≡ out)
IsAttempt told options old out (attempt.Solved r a) =
    IsReduced told options r × (whole_of r.model ≡ whole_of old.model) × (r.out.items ≡ old.out.items)
    × IsSolution (part_of (whole_of old.model) out) a.values
IsAttempt told options old out (attempt.Spent r s) =
    IsReduced told options r × (whole_of r.model ≡ whole_of old.model) × (r.out.items ≡ old.out.items)
    × IsSpentPart told (whole_of old.model) options s

-- another part of the same model was chosen; or the search was given up
abbrev pub IsChoice : (Core → Equation → Type 0) → SearchOptions → Reduction → Choice → Type 0
IsChoice told options old (choice.Part r) = IsReduced told options r × IsSameModel old r
IsChoice told options old (choice.Spent r s) =
    IsSpentPart told (whole_of old.model) options s × (whole_of r.model ≡ whole_of old.model)

-- it goes on with a part of the same model
abbrev pub IsTrimming : (Core → Equation → Type 0) → SearchOptions → Reduction → Trimming → Type 0
IsTrimming told options old (trimming.Smaller r) = IsReduced told options r × IsSameModel old r
IsTrimming told options old (trimming.Ended r) = IsReduced told options r × IsSameModel old r

abbrev pub IsLeaving : (Core → Equation → Type 0) → SearchOptions → Reduction → Leaving → Type 0
IsLeaving told options old (leaving.Next r size) = IsReduced told options r × IsSameModel old r
IsLeaving told options old (leaving.Done r) = IsReduced told options r × IsSameModel old r
IsLeaving told options old (leaving.Spent r s) =
    IsSpentPart told (whole_of old.model) options s × (whole_of r.model ≡ whole_of old.model)

-- among so many statements at the front, each that is kept has an assignment that meets the others
pub record IsProgress (told : Core → Equation → Type 0) (options : SearchOptions) (place : ℕ) (p : Progress)
    : Type 0 where
  pub reduced : IsReduced told options p.reduction
  pub found : AreFound (part_of (whole_of p.reduction.model) p.reduction.out.items)
      (numbers_before place p.reduction.out.items (whole_of p.reduction.model).stmts) p.given.items

-- it goes on with the same model; or the search was given up
abbrev pub GoesOn : (Core → Equation → Type 0) → SearchOptions → ℕ → Reduction → Turn → Type 0
GoesOn told options place old (turn.Next p) = IsProgress told options place p × IsSameModel old p.reduction
GoesOn told options place old (turn.Spent r s) =
    IsSpentPart told (whole_of old.model) options s × (whole_of r.model ≡ whole_of old.model)

abbrev pub IsTurn : (Core → Equation → Type 0) → SearchOptions → ℕ → Progress → Turn → Type 0
IsTurn told options place old t = GoesOn told options place old.reduction t

-- all statements were looked at
abbrev pub IsSettled : (Core → Equation → Type 0) → SearchOptions → Reduction → Turn → Type 0
IsSettled told options old t = GoesOn told options (length old.out.items) old t

-- where ledger and derivation come from: an answer to the model with the statements of the part. Where that was given
-- up, the budget is the verdict's number, and so many clauses were added; it never is where the budget is as great as
-- what the answer's `enough` says.
abbrev pub CertificateComes : (Core → Equation → Type 0) → Model → SearchOptions → ConflictDocument → CoreVerdict
    → Type 0
CertificateComes told model options d conflict.Satisfiable = Unit {0}
CertificateComes told model options d (conflict.Core k) =
    IsAnswered told (only model d.statements) options d.ledger d.proof verdict.Unsatisfiable
CertificateComes told model options d (conflict.Unknown n) = (n ≡ options.budget)
    × IsAnswered told (only model d.statements) options d.ledger d.proof (verdict.Unknown n None)

-- what is extracted: the document of a solution, a conflict, or a search that was given up, which can be written
pub record IsExtracted (told : Core → Equation → Type 0) (model : Model) (options : SearchOptions)
    (d : ConflictDocument) : Type 0 where
  pub document : IsConflictDocument model d
  pub whole : AreWhole model.decls d.assignments
  pub certificate : CertificateComes told model options d d.verdict

-- with the declarations of the model
abbrev pub IsExtractedFrom : (Core → Equation → Type 0) → Model → SearchOptions → ExtractedConflict → Type 0
IsExtractedFrom told model options e = IsExtracted told model options e.document × (e.decls ≡ model.decls)

-- the same of each well typed model that this one is but for its goal
abbrev pub ExtractsFrom : (Core → Equation → Type 0) → Model → SearchOptions → ExtractedConflict → Type 0
ExtractsFrom told whole options e = (model : Model) → WellTyped model → whole ≡ satisfying model
    → IsExtractedFrom told model options e

-- the document of a conflict, of a solution, and of a search that was given up
abbrev pub conflict_document : List ℕ → Certificate → List Assignment → ConflictDocument
conflict_document numbers c given = record {
  verdict = conflict.Core (length numbers);
  statements = numbers;
  ledger = c.ledger;
  proof = c.proof;
  assignments = given;
}

abbrev pub solution_document : Assignment → ConflictDocument
solution_document a = record {
  verdict = conflict.Satisfiable;
  statements = [];
  ledger = [];
  proof = [];
  assignments = a ∷ [];
}

abbrev pub spent_document : ℕ → SpentPart → ConflictDocument
spent_document budget s = record {
  verdict = conflict.Unknown budget;
  statements = s.statements;
  ledger = s.certificate.ledger;
  proof = s.certificate.proof;
  assignments = [];
}

-- the model, with one for each `bool2int` that declares its integer, weighs too much, and that is told; or memory was
-- wanting
abbrev pub IsFaultOf : LowerFault → Model → Type 0
IsFaultOf (TooHeavy w) model = (most_weight < core_weight model) × (w ≡ core_weight model)
IsFaultOf Memory model = Unit {0}
