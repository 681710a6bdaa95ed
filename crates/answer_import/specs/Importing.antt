-- The text of a document that is checked.
use Rattle.std.specs.Prelude.{◌≡◌, ℕ, List}
use Rattle.model_meaning.specs.declared.model.Model.{Model}
use Rattle.bee_compile.specs.declared.compiled.Compiled.{Compiled}
use Rattle.answer_document.specs.declared.document.Document.{Document}
use Rattle.answer_document.specs.DocumentText.{document_text}
use Rattle.ledger_check.specs.Checked.{IsAnswer}
use Rattle.answer_import.specs.Imports.{Sought, AddsOnly}

-- a text is that of a document whose derivation only adds clauses, and a valid answer with its verdict
pub record IsWrittenFor (model : Model) (document : Document) (text : List ℕ) : Type 0 where
  pub adds : AddsOnly document.proof
  pub spelled : text ≡ document_text model.decls model.goal document
  pub answer : IsAnswer model text document.verdict

-- what is sought of a model that is compiled
abbrev pub sought_of : Model → Compiled → Sought
sought_of model c = record { cnf = c.cnf; entries = c.map.entries; goal = model.goal }
