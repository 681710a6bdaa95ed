-- What a run in the mode opb promises.
use Rattle.std.specs.Prelude.{ℕ, List}
use Rattle.text_modes.specs.Seen.{Seen}
use Rattle.text_modes.specs.declared.ends.Outcome.{Outcome}
use Rattle.text_modes.specs.declared.ends.End.{End}
use Rattle.model_texts.specs.declared.fault.ModelFault.{ModelFault}
use Rattle.search_options.specs.declared.options.SearchOptions.{SearchOptions}
use Rattle.solve_mode.specs.Solved.{AnswersHeld, IsSolvedHeld}
use Rattle.solve_mode.specs.SolveMode.{SolveRun}
use Rattle.opb_mode.specs.Files.{HoldsFileModel, HasOpbFault}

-- the text of an answer to the model of the file that a text says, and that what it says is true of this model
abbrev pub AnswersFile : SearchOptions → List ℕ → Outcome → List ℕ → Type 0
AnswersFile = AnswersHeld HoldsFileModel

abbrev pub IsSolvedFile : SearchOptions → List ℕ → Outcome → List ℕ → Type 0
IsSolvedFile = IsSolvedHeld HoldsFileModel

-- a run in the mode opb: the promise of solve, of the model of the file
abbrev pub OpbMode : SearchOptions → List ℕ → End ModelFault → Seen → Type 0
OpbMode = SolveRun HoldsFileModel HasOpbFault
