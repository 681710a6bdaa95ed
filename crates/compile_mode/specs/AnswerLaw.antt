-- No text is without an answer.
use Rattle.std.specs.Prelude.{ℕ, List}
use Rattle.text_modes.specs.declared.ends.End.{End}
use Rattle.model_texts.specs.declared.fault.ModelFault.{ModelFault}
use Rattle.compile_mode.specs.CompileMode.{HasEnd}

-- each text has an end of compile mode
abbrev pub CompileAnswers : Type 0
CompileAnswers = (text : List ℕ) → (end : End ModelFault) × HasEnd text end
