-- What a run in checkcore mode promises.
use Rattle.std.specs.Prelude.{ℕ, List}
use Rattle.text_modes.specs.Seen.{Seen}
use Rattle.text_modes.specs.TwoTexts.{Texts}
use Rattle.text_modes.specs.declared.ends.End.{End}
use Rattle.model_texts.specs.declared.fault.ModelFault.{ModelFault}
use Rattle.check_modes.specs.Kinds.{Kind}
use Rattle.check_modes.specs.Kinds as kinds
use Rattle.check_modes.specs.Checks.{Checks}
use Rattle.conflict_models.specs.ConflictModels.{HoldsWhole, IsReasonOf}
use Rattle.conflict_text.specs.declared.verdict.CoreVerdict.{CoreVerdict}
use Rattle.conflict_text.specs.ConflictLines.{verdict_line}
use Rattle.conflict_text.specs.ConflictSays.{IsConflictText}
use Rattle.conflict_check.specs.Checked.{IsAcceptedConflict, IsRefusedConflict}

-- Conflicts as a kind of text: the first text says a model none of whose parts is too heavy, and the second is that of
-- a conflict of it, or is refused.
abbrev pub conflicts : Kind CoreVerdict
conflicts = record {
  Holds = HoldsWhole;
  IsCause = IsReasonOf;
  IsValid = IsConflictText;
  IsTrue = IsAcceptedConflict;
  Fails = IsRefusedConflict;
  words = verdict_line;
}

-- the end that two texts have of which the first says a model that is answered
abbrev pub HaveEnd : Texts → End ModelFault → Type 0
HaveEnd = kinds.HaveEnd conflicts

-- a run in checkcore mode, with the names of the model and of the conflict
abbrev pub CheckCoreMode : List ℕ → List ℕ → End ModelFault → Seen → Type 0
CheckCoreMode = Checks conflicts
