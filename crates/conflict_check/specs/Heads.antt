-- How far the first lines of a text were read, as a standing, and what comes of them.
use Rattle.std.specs.Prelude.{◌≡◌, ℕ, Bool, true, false, List, Some}
use Rattle.model_meaning.specs.declared.model.Model.{Model}
use Rattle.model_parts.specs.Only.{only}
use Rattle.answer_document.specs.Valid.{start_of}
use Rattle.line_texts.specs.LineByLine.{FirstMisfit}
use Rattle.line_texts.proofs.ReadTo.{ReadTo}
use Rattle.conflict_text.specs.declared.part.Part.TheVariants as part
use Rattle.conflict_text.specs.declared.verdict.CoreVerdict.{CoreVerdict}
use Rattle.conflict_text.specs.declared.verdict.CoreVerdict.TheVariants.{Satisfiable, Core, Unknown}
use Rattle.conflict_text.specs.ConflictLines.{Standing, start_standing, IsNext, IsEnd}
use Rattle.conflict_check.specs.declared.head.Head.{Head}
use Rattle.conflict_check.specs.declared.head.Front.{Front}
use Rattle.conflict_check.specs.declared.head.Front.TheVariants.{Fails, Leads}
use Rattle.conflict_check.specs.declared.head.Stage.{Stage}
use Rattle.conflict_check.specs.declared.head.Stage.TheVariants as stage
use Rattle.conflict_check.specs.Marks.{AreMarked}

-- what is wanted behind a verdict
abbrev pub stage_behind : CoreVerdict → Stage
stage_behind Satisfiable = stage.Done
stage_behind (Core k) = stage.Statements
stage_behind (Unknown n) = stage.Statements

-- what is known beside the part that comes next
abbrev pub base : Model → CoreVerdict → List ℕ → ℕ → Standing
base model v conflict now = record (start_standing model) { verdict = v; conflict = conflict; now = now }

-- behind the last of the first lines: the values of a solution, or the ledger of the part
abbrev pub done_standing : Model → CoreVerdict → List ℕ → ℕ → Standing
done_standing model Satisfiable conflict now = record (base model Satisfiable conflict now) { part = part.Values }
done_standing model (Core k) conflict now = record (base model (Core k) conflict now) {
  model = only model conflict;
  part = part.Ledger;
  kernel = Some (start_of (only model conflict));
}
done_standing model (Unknown n) conflict now = record (base model (Unknown n) conflict now) {
  model = only model conflict;
  part = part.Ledger;
  kernel = Some (start_of (only model conflict));
}

abbrev pub standing_in : Model → CoreVerdict → List ℕ → ℕ → Stage → Standing
standing_in model v conflict now stage.Version = record (base model v conflict now) { part = part.Version }
standing_in model v conflict now stage.Verdict = record (base model v conflict now) { part = part.Verdict }
standing_in model v conflict now stage.Statements = record (base model v conflict now) { part = part.Statements }
standing_in model v conflict now stage.Done = done_standing model v conflict now

abbrev pub head_standing : Model → Head → Standing
head_standing model h = standing_in model h.verdict h.conflict.items h.last h.stage

-- statements are marked up to the one that was named last
abbrev pub IsWalked : Model → Head → Type 0
IsWalked model h = AreMarked model.stmts h.conflict.items h.last h.out.items

-- a line leads to what stands behind it, or leads nowhere
abbrev pub IsHeadTaken : Model → Head → List ℕ → Head → Bool → Type 0
IsHeadTaken model old line new true = IsNext (head_standing model old) line (head_standing model new)
    × IsWalked model new
IsHeadTaken model old line new false = (t : Standing) → IsNext (head_standing model old) line t → ⊥

-- the first lines were read
pub record IsHead (model : Model) (old : Head) (text : List ℕ) (new : Head) (rest : List ℕ) (read : ℕ) : Type 0 where
  pub done : new.stage ≡ stage.Done
  pub reads : ReadTo IsNext (head_standing model old) text rest read (head_standing model new)
  pub walked : IsWalked model new

-- or one of them is the first line that fails
abbrev pub IsFront : Model → Head → List ℕ → Head → List ℕ → Front → Type 0
IsFront model old text new rest (Fails line) = FirstMisfit IsNext IsEnd (head_standing model old) text line
IsFront model old text new rest (Leads read) = IsHead model old text new rest read
