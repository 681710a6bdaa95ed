-- What a run in checkall mode promises.
use Rattle.std.specs.Prelude.{ℕ, List, ℤ}
use Rattle.text_modes.specs.Seen.{Seen}
use Rattle.text_modes.specs.TwoTexts.{Texts}
use Rattle.text_modes.specs.declared.ends.End.{End}
use Rattle.model_texts.specs.declared.fault.ModelFault.{ModelFault}
use Rattle.model_texts.specs.ModelTexts.{IsCauseOf}
use Rattle.model_texts.specs.HeldModels.{HoldsModel}
use Rattle.check_modes.specs.Kinds.{Kind}
use Rattle.check_modes.specs.Kinds as kinds
use Rattle.check_modes.specs.Checks.{Checks}
use Rattle.list_text.specs.declared.verdict.ListVerdict.{ListVerdict}
use Rattle.list_text.specs.Verdicts.{verdict_line}
use Rattle.list_text.specs.Valid.{IsValidList}
use Rattle.list_check.specs.Checked.{IsList, IsRefused}

-- Lists of solutions as a kind of text: the first text says a model that is compiled, and the second is a valid list of
-- its solutions, of these or those, or is refused.
abbrev pub lists : Kind ListVerdict
lists = record {
  Holds = HoldsModel;
  IsCause = IsCauseOf;
  IsValid = λ model text v. (listed : List (List ℤ)) × IsValidList model text v listed;
  IsTrue = IsList;
  Fails = IsRefused;
  words = verdict_line;
}

-- the end that two texts have of which the first says a model that is compiled
abbrev pub HaveEnd : Texts → End ModelFault → Type 0
HaveEnd = kinds.HaveEnd lists

-- a run in checkall mode, with the names of the model and of the list
abbrev pub CheckAllMode : List ℕ → List ℕ → End ModelFault → Seen → Type 0
CheckAllMode = Checks lists
