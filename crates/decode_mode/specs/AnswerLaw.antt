-- Each two texts have an answer.
use Rattle.std.specs.Prelude.{◌⊎◌, ℕ}
use Rattle.dimacs_read.specs.TextSteps.{TextFails}
use Rattle.text_modes.specs.TwoTexts.{Texts}
use Rattle.text_modes.specs.declared.ends.End.{End}
use Rattle.decode_mode.specs.DecodeMode.{HaveEnd}

-- the compiled text has a fault, or both have an end of decode mode
abbrev pub DecodeAnswers : Type 0
DecodeAnswers = (texts : Texts) → ((line : ℕ) × TextFails texts.first line)
    ⊎ ((end : End ℕ) × HaveEnd texts end)
