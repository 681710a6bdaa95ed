-- Each text has an answer, and a weight that is told is the one with which a text is refused.
use Rattle.std.specs.Prelude.{◌≡◌, ℕ, List, ◌∷◌, ◌++◌}
use Rattle.text_modes.specs.declared.ends.End.{End}
use Rattle.model_texts.specs.declared.fault.ModelFault.{ModelFault}
use Rattle.model_texts.specs.declared.fault.ModelFault.TheVariants as fault
use Rattle.model_texts.specs.ModelTexts.{HasFault}
use Rattle.weigh_mode.specs.WeighingText.{weight_line}
use Rattle.weigh_mode.specs.WeighMode.{IsWeighed, HasEnd}

-- each text has an end of weigh mode
abbrev pub WeighAnswers : Type 0
WeighAnswers = (text : List ℕ) → (end : End ModelFault) × HasEnd text end

-- of a text that is refused with a weight the first line tells this weight
abbrev pub WeighsAsRefused : Type 0
WeighsAsRefused =
    (text written : List ℕ) (weight : ℕ) → HasFault text (fault.TooHeavy weight) → IsWeighed text written
    → (rest : List ℕ) × (written ≡ weight_line weight ++ 10 ∷ rest)
