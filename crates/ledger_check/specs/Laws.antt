-- A text that is read line by line to its end is a valid answer, and the other way about.
use Rattle.std.specs.Prelude.{◌≡◌, ℕ, List, ℤ, Option}
use Rattle.bee_text.specs.Lines.{AreLines}
use Rattle.model_meaning.specs.declared.model.Model.{Model}
use Rattle.answer_document.specs.declared.verdict.Verdict.{Verdict}
use Rattle.answer_document.specs.Verdicts.{VerdictFits}
use Rattle.answer_document.specs.declared.document.Document.{Document}
use Rattle.answer_document.specs.DocumentText.{document_lines}
use Rattle.answer_document.specs.Valid.{IsReadableDocument, IsValid}
use Rattle.line_texts.specs.LineByLine.{IsWhole}
use Rattle.ledger_check.specs.declared.fault.Why.{Why}
use Rattle.ledger_check.specs.Items.{Standing}
use Rattle.ledger_check.specs.Tests.{start_standing}
use Rattle.ledger_check.specs.Reading.{IsNext, IsEnd}
use Rattle.ledger_check.specs.Fronts.{answer_of}
use Rattle.ledger_check.specs.Checked.{IsFirstFault}

-- a whole text is a valid answer, with the verdict and the values that its lines told
abbrev pub WholeIsValid : Type 0
WholeIsValid = (model : Model) (text : List ℕ) (s : Standing)
    → IsWhole (IsNext model) IsEnd (start_standing model) text s
    → IsValid model text s.verdict (answer_of s.verdict s.values)

-- the lines of each document of a model, with a verdict that fits the goal, are lines
abbrev pub AreWrittenLines : Model → Type 0
AreWrittenLines model = (d : Document) → IsReadableDocument d → VerdictFits model.goal d.verdict
    → AreLines (document_lines model.decls model.goal d)

-- a valid answer is a whole text, whose lines tell its verdict
abbrev pub ValidIsWhole : Type 0
ValidIsWhole = (model : Model) (text : List ℕ) (v : Verdict) (a : Option (List ℤ)) → AreWrittenLines model
    → IsValid model text v a
    → (s : Standing) × IsWhole (IsNext model) IsEnd (start_standing model) text s × (s.verdict ≡ v)

-- a text has one first line that fails
abbrev pub OneFirstFault : Type 0
OneFirstFault = (model : Model) (text : List ℕ) (m n : ℕ) (why cause : Why) → IsFirstFault model text m why
    → IsFirstFault model text n cause → m ≡ n
