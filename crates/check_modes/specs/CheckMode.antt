-- What a run in check mode promises.
use Rattle.std.specs.Prelude.{ℕ, List, ℤ, Option}
use Rattle.text_modes.specs.Seen.{Seen}
use Rattle.text_modes.specs.TwoTexts.{Texts}
use Rattle.text_modes.specs.declared.ends.End.{End}
use Rattle.model_texts.specs.declared.fault.ModelFault.{ModelFault}
use Rattle.model_texts.specs.ModelTexts.{IsCauseOf}
use Rattle.model_texts.specs.HeldModels.{HoldsModel}
use Rattle.check_modes.specs.Kinds.{Kind}
use Rattle.check_modes.specs.Kinds as kinds
use Rattle.check_modes.specs.Checks.{Checks}
use Rattle.answer_document.specs.declared.verdict.Verdict.{Verdict}
use Rattle.answer_document.specs.Verdicts.{verdict_text}
use Rattle.answer_document.specs.Valid.{IsValid}
use Rattle.ledger_check.specs.declared.fault.Why.{Why}
use Rattle.ledger_check.specs.Checked.{IsAnswer, IsRefused}

-- Answers as a kind of text: the first text says a model that is compiled, and the second is a valid answer to it, with
-- some assignment or none, or is refused for some cause.
abbrev pub answers : Kind Verdict
answers = record {
  Holds = HoldsModel;
  IsCause = IsCauseOf;
  IsValid = λ model text v. (assignment : Option (List ℤ)) × IsValid model text v assignment;
  IsTrue = IsAnswer;
  Fails = λ model text line. (why : Why) × IsRefused model text line why;
  words = verdict_text;
}

-- a text says a model that is compiled
abbrev pub HasModel : List ℕ → Type 0
HasModel = kinds.HasModel answers

-- the end that two texts have of which the first says a model that is compiled
abbrev pub HaveEnd : Texts → End ModelFault → Type 0
HaveEnd = kinds.HaveEnd answers

-- a run in check mode, with the names of the model and of the answer
abbrev pub CheckMode : List ℕ → List ℕ → End ModelFault → Seen → Type 0
CheckMode = Checks answers
