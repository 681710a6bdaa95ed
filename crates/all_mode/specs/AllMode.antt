-- What a run in the mode of all solutions promises.
use Rattle.std.specs.Prelude.{ℕ, ◌+◌, List, Some}
use Rattle.text_modes.specs.Seen.{Seen}
use Rattle.text_modes.specs.Ends.{IsFaultEnd}
use Rattle.text_modes.specs.Promises.{ToldUnder, ReadFailed, Answers, Finishes}
use Rattle.text_modes.specs.OneText.{OneTextRun}
use Rattle.text_modes.specs.TwoTexts.{HoldsSome}
use Rattle.text_modes.specs.declared.ends.End.{End}
use Rattle.model_texts.specs.declared.fault.ModelFault.{ModelFault}
use Rattle.model_texts.specs.ModelTexts.{longest_text, HasFault}
use Rattle.model_texts.specs.HeldModels.{HoldsModel}
use Rattle.search_options.specs.declared.options.SearchOptions.{SearchOptions}
use Rattle.all_mode.specs.Listed.{IsListed}

-- a text says a model that is compiled
abbrev pub HasModel : List ℕ → Type 0
HasModel = HoldsSome HoldsModel

-- A run that lists the solutions of the model that a text says, with how they are sought and the name of the text, of
-- which one byte more than the limit is read at most. The text that is given for it is a valid list of the solutions of
-- that model (`IsListed`), and its fault is the first that it has. A text that says a model is answered, by all
-- solutions or by the budget that is spent, unless memory is wanting.
pub record AllMode (options : SearchOptions) (input : List ℕ) (end : End ModelFault) (seen : Seen) : Type 0 where
  pub run : OneTextRun (Some (longest_text + 1)) (IsListed options) HasFault input end seen
  pub faulty : Answers (ToldUnder input seen) (IsFaultEnd HasFault) (ReadFailed input seen) end seen
  pub finishes : Finishes (ToldUnder input seen) HasModel (ReadFailed input seen) end seen
