-- A text with a line that fails is no valid answer.
use Rattle.std.proofs.Common.{ℕ, List, [], ◌∷◌, map, sym, inl, inr}
use Rattle.std.proofs.lemmas.List.{append-nil}
use Rattle.bee_text.specs.Lines.{AreLines, lines_of}
use Rattle.line_texts.proofs.Leads.{whole_fits}
use Rattle.model_meaning.specs.declared.model.Decl.{Decl}
use Rattle.model_meaning.specs.declared.model.Model.{Model}
use Rattle.ledger_check.specs.declared.fault.Why.{Why}
use Rattle.ledger_check.specs.Tests.{start_standing}
use Rattle.ledger_check.specs.Reading.{IsNext, IsEnd}
use Rattle.ledger_check.specs.Checked.{IsFirstFault, IsRefused}
use Rattle.ledger_check.proofs.OneFault.{one_next}
use Rattle.ledger_check.proofs.ValidWhole.{valid-whole}
use Rattle.ledger_check.proofs.DocumentLines.{written-lines}

pub first_fault_refused : (model : Model) → AreLines (map (λ (d : Decl). d.name) model.decls) → (text : List ℕ) (line : ℕ) (why : Why) → IsFirstFault model text line why → IsRefused model text line why
first_fault_refused model names text line why (inl m) = record {
  invalid = λ v a valid.
      let w = valid-whole model (written-lines model names) text v a valid in
      whole_fits (IsNext model) (λ _. Unit {0}) (λ s t l good next. tt) (λ s t u l good p q. one_next model s t u l p q) IsEnd (start_standing model) tt text w.0 m.stands m.before (m.line ∷ m.left) w.1 m.parts m.lead m.misfit;
  first = inl m;
}
first_fault_refused model names text line why (inr m) = record {
  invalid = λ v a valid.
      let w = valid-whole model (written-lines model names) text v a valid in
      whole_fits (IsNext model) (λ _. Unit {0}) (λ s t l good next. tt) (λ s t u l good p q. one_next model s t u l p q) IsEnd (start_standing model) tt text w.0 m.0.stands (lines_of text) [] w.1 (sym (append-nil (lines_of text))) m.0.lead m.0.early;
  first = inr m;
}
