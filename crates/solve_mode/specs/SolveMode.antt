-- What a run in solve mode promises.
use Rattle.std.specs.Prelude.{ℕ, ◌+◌, List, Some}
use Rattle.text_modes.specs.Seen.{Seen}
use Rattle.text_modes.specs.Ends.{IsFaultEnd}
use Rattle.text_modes.specs.Promises.{ToldUnder, ReadFailed, Answers, Finishes}
use Rattle.text_modes.specs.OneText.{OneTextRun}
use Rattle.text_modes.specs.TwoTexts.{HoldsSome}
use Rattle.text_modes.specs.declared.ends.End.{End}
use Rattle.model_texts.specs.declared.fault.ModelFault.{ModelFault}
use Rattle.model_texts.specs.ModelTexts.{longest_text, HasFault}
use Rattle.model_texts.specs.HeldModels.{HoldsModel}
use Rattle.search_options.specs.declared.options.SearchOptions.{SearchOptions}
use Rattle.model_meaning.specs.declared.model.Model.{Model}
use Rattle.solve_mode.specs.Solved.{IsSolvedHeld}

-- a text says a model that is compiled
abbrev pub HasModel : List ℕ → Type 0
HasModel = HoldsSome HoldsModel

-- A run that answers the model that a text holds, with how the answer is sought and the name of the text, of which one
-- byte more than the limit is read at most. The text that is given for it is that of an answer to the model that it
-- holds (`IsSolvedHeld`), and its fault is the first that it has. A text that holds a model is answered, by a verdict
-- or by the budget that is spent, unless memory is wanting.
pub record SolveRun (Holds : List ℕ → Model → Type 0) (Fails : List ℕ → ModelFault
    → Type 0) (options : SearchOptions) (input : List ℕ) (end : End ModelFault) (seen : Seen) : Type 0 where
  pub run : OneTextRun (Some (longest_text + 1)) (IsSolvedHeld Holds options) Fails input end seen
  pub faulty : Answers (ToldUnder input seen) (IsFaultEnd Fails) (ReadFailed input seen) end seen
  pub finishes : Finishes (ToldUnder input seen) (HoldsSome Holds) (ReadFailed input seen) end seen

-- a run in solve mode: the text says the model
abbrev pub SolveMode : SearchOptions → List ℕ → End ModelFault → Seen → Type 0
SolveMode = SolveRun HoldsModel HasFault
