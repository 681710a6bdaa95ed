-- The laws of the two modes.
use Rattle.std.specs.Prelude.{ℕ, List}
use Rattle.text_modes.specs.declared.ends.Outcome.{Outcome}
use Rattle.text_modes.specs.declared.ends.End.{End}
use Rattle.model_texts.specs.declared.fault.ModelFault.{ModelFault}
use Rattle.answer_document.specs.Valid.{numbers_given}
use Rattle.search_options.specs.declared.options.SearchOptions.{SearchOptions}
use Rattle.opb_mode.specs.OpbModelMode.{HasEnd}
use Rattle.opb_mode.specs.OpbMode.{IsSolvedFile}
use Rattle.opb_mode.specs.Claims.{FileClaims}

-- each text has an end of the mode opbmodel
abbrev pub OpbModelAnswers : Type 0
OpbModelAnswers = (text : List ℕ) → (end : End ModelFault) × HasEnd text end

-- the verdict of what is written in the mode opb is true of the file
abbrev pub VerdictTrueOfFile : Type 0
VerdictTrueOfFile =
    (options : SearchOptions) (text : List ℕ) (outcome : Outcome) (written : List ℕ)
    → (h : IsSolvedFile options text outcome written)
    → FileClaims h.answer.held.opb h.answer.is.document.verdict (numbers_given h.answer.is.document.assignment)
