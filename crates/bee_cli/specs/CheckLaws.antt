-- What checking makes of answers.
use Rattle.std.specs.Prelude.{◌≡◌, List, [], ℕ}
use Rattle.text_modes.specs.TwoTexts.{Texts}
use Rattle.text_modes.specs.declared.ends.Outcome.{Outcome}
use Rattle.text_modes.specs.declared.ends.Outcome.TheVariants.{Done, Refused}
use Rattle.text_modes.specs.declared.ends.End.TheVariants.{Wrote}
use Rattle.search_options.specs.declared.options.SearchOptions.{SearchOptions}
use Rattle.solve_mode.specs.Solved.{IsSolved}
use Rattle.check_modes.specs.CheckMode.{HasModel, HaveEnd}
use Rattle.opb_mode.specs.OpbModelMode.{IsModelText}
use Rattle.opb_mode.specs.OpbMode.{IsSolvedFile}

-- what is written for a model in solve mode is accepted in check mode, whatever the options and the outcome were
abbrev pub SolvedIsAccepted : Type 0
SolvedIsAccepted =
    (options : SearchOptions) (outcome : Outcome) (texts : Texts) → IsSolved options texts.first outcome texts.second
    → HaveEnd texts (Wrote Done)

-- What is written for a pseudo-Boolean file in the mode opb is accepted in check mode as an answer to what is written
-- for it in the mode opbmodel, whatever the options and the outcome were.
abbrev pub FileAnswerIsAccepted : Type 0
FileAnswerIsAccepted =
    (options : SearchOptions) (outcome : Outcome) (file : List ℕ) (texts : Texts) → IsModelText file texts.first
    → IsSolvedFile options file outcome texts.second
    → HaveEnd texts (Wrote Done)

-- a text without a line is refused at line 1, as the second text is where it has the name of the first
abbrev pub EmptyIsRefused : Type 0
EmptyIsRefused = (texts : Texts) → HasModel texts.first → texts.second ≡ [] → HaveEnd texts (Wrote (Refused 1))
