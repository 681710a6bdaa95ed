-- What a run in core mode promises.
use Rattle.std.specs.Prelude.{ℕ, ◌+◌, ◌⊎◌, List, Some}
use Rattle.text_modes.specs.Seen.{Seen}
use Rattle.text_modes.specs.Ends.{IsFaultEnd}
use Rattle.text_modes.specs.Promises.{ToldUnder, ReadFailed, Answers, Finishes}
use Rattle.text_modes.specs.OneText.{OneTextRun}
use Rattle.text_modes.specs.TwoTexts.{HoldsSome}
use Rattle.text_modes.specs.declared.ends.End.{End}
use Rattle.model_texts.specs.declared.fault.ModelFault.{ModelFault}
use Rattle.model_texts.specs.ModelTexts.{longest_text}
use Rattle.search_options.specs.declared.options.SearchOptions.{SearchOptions}
use Rattle.conflict_models.specs.ConflictModels.{HoldsWhole, HasFaultOf}
use Rattle.core_mode.specs.Conflicts.{IsConflictHeld}

-- A run in core mode, with how each search is made and the name of the text, of which one byte more than the limit is
-- read at most. The text that is given for it is that of a solution of the model that it says; or of a conflict, which
-- is a part that no assignment in the domains meets, and of which each statement is needed for that; or of a search
-- that was given up, which tells the budget. Its fault is the first that it has. A text that says a model none of whose
-- parts is too heavy is answered, unless memory is wanting.
pub record CoreMode (options : SearchOptions) (input : List ℕ) (end : End ModelFault) (seen : Seen) : Type 0 where
  pub run : OneTextRun (Some (longest_text + 1)) (IsConflictHeld options) HasFaultOf input end seen
  pub faulty : Answers (ToldUnder input seen) (IsFaultEnd HasFaultOf) (ReadFailed input seen) end seen
  pub finishes : Finishes (ToldUnder input seen) (HoldsSome HoldsWhole) (ReadFailed input seen) end seen

-- no text is without an answer: it has a fault, or it says such a model
abbrev pub CoreAnswers : Type 0
CoreAnswers = (text : List ℕ) → ((f : ModelFault) × HasFaultOf text f) ⊎ HoldsSome HoldsWhole text
