-- No two texts are without an answer.
use Rattle.check_modes.specs.Checks.{TextsAnswer}
use Rattle.check_modes.specs.CheckMode.{answers}
use Rattle.check_modes.specs.CheckAllMode.{lists}
use Rattle.check_modes.specs.CheckCoreMode.{conflicts}

-- it cannot be that two texts have no end of a mode, neither a fault of the model nor an end of both
abbrev pub CheckAnswers : Type 0
CheckAnswers = TextsAnswer answers

abbrev pub CheckAllAnswers : Type 0
CheckAllAnswers = TextsAnswer lists

abbrev pub CheckCoreAnswers : Type 0
CheckCoreAnswers = TextsAnswer conflicts
