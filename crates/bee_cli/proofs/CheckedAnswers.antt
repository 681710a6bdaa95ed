-- What checking makes of answers.
use Rattle.std.proofs.Common.{◌≡◌, ℕ, ◌≤◌, List, [], length, ℤ, Option, refl, sym, ap, ◌∙◌, subst, inr, map}
use Rattle.model_meaning.specs.declared.model.Decl.{Decl}
use Rattle.model_meaning.specs.declared.model.Model.{Model}
use Rattle.answer_document.specs.Valid.{IsValid, numbers_given}
use Rattle.model_texts.specs.ModelTexts.{longest_text, IsModelOf}
use Rattle.model_texts.proofs.ModelShapes.{names}
use Rattle.opb_front.proofs.Ends.{said_same}
use Rattle.opb_model.specs.Models.{opb_model}
use Rattle.ledger_check.specs.declared.fault.Why.TheVariants.{Shape}
use Rattle.ledger_check.specs.Reading.{IsEnd}
use Rattle.ledger_check.specs.Tests.{start_standing}
use Rattle.ledger_check.specs.Checked.{IsFirstFault, IsRefused}
use Rattle.ledger_check.proofs.DocumentLines.{declared-lines}
use Rattle.check_modes.proofs.AnswerRefusals.{first_fault_refused}
use Rattle.bee_cli.specs.CheckLaws.{SolvedIsAccepted, FileAnswerIsAccepted, EmptyIsRefused}

pub solved_is_accepted : SolvedIsAccepted
solved_is_accepted options outcome texts h =
    let answer = h.answer in
    let d = answer.is.document in
    record {
      model = answer.model;
      held = answer.held;
      verdict = d.verdict;
      valid = (numbers_given d.assignment, subst (λ (t : List ℕ). IsValid answer.model t d.verdict (numbers_given d.assignment)) (sym answer.is.writes) answer.is.is.valid);
    }

pub file_answer_is_accepted : FileAnswerIsAccepted
file_answer_is_accepted options outcome file texts m h =
    let answer = h.answer in
    let d = answer.is.document in
    let same : answer.held.opb ≡ m.opb = said_same file answer.held.opb m.opb answer.held.file.says m.file.says in
    let model_is : answer.model ≡ opb_model m.opb = answer.held.model_is ∙ ap opb_model same in
    let within = subst (λ (t : List ℕ). length t ≤ longest_text) (sym m.canonical) m.file.short in
    record {
      model = answer.model;
      held = record { within = within; says = subst (λ (n : Model). IsModelOf texts.first n) (sym model_is) m.says; light = answer.held.light };
      verdict = d.verdict;
      valid = (numbers_given d.assignment, subst (λ (t : List ℕ). IsValid answer.model t d.verdict (numbers_given d.assignment)) (sym answer.is.writes) answer.is.is.valid);
    }

start_not_end : (model : Model) → IsEnd (start_standing model) → ⊥
start_not_end model e = cc

first_missing : (model : Model) → IsFirstFault model [] 1 Shape
first_missing model = inr (record { number_is = refl; stands = start_standing model; lead = refl; early = λ none ended. start_not_end model ended }, refl)

pub empty_is_refused : EmptyIsRefused
empty_is_refused texts h e =
    let model = h.0 in
    let lines = declared-lines (map (λ (d : Decl). d.name) model.decls) (names texts.first model h.1.says) in
    let P : List ℕ → Type 0 = λ t. IsRefused model t 1 Shape in
    record { model = model; held = h.1; fails = (Shape, subst P (sym e) (first_fault_refused model lines [] 1 Shape (first_missing model))) }
