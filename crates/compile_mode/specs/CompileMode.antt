-- What a run in compile mode promises.
use Rattle.std.specs.Prelude.{ℕ, ◌+◌, ◌≤◌, List, length, Some}
use Rattle.text_modes.specs.Seen.{Seen}
use Rattle.text_modes.specs.Promises.{ToldUnder, ReadFailed, Answers}
use Rattle.text_modes.specs.OneText.{OneTextRun}
use Rattle.text_modes.specs.declared.ends.Outcome.TheVariants.{Done}
use Rattle.text_modes.specs.declared.ends.End.{End}
use Rattle.text_modes.specs.declared.ends.End.TheVariants.{Wrote, Fault}
use Rattle.model_texts.specs.declared.fault.ModelFault.{ModelFault}
use Rattle.model_texts.specs.ModelTexts.{longest_text, HasFault}
use Rattle.compile_mode.specs.Compiled.{IsCompilable, Gives}

-- the end that a text has
abbrev pub HasEnd : List ℕ → End ModelFault → Type 0
HasEnd text (Wrote Done) = (length text ≤ longest_text) × IsCompilable text
HasEnd text (Fault fault) = HasFault text fault
HasEnd text end = ⊥

-- A run in compile mode, with the name of the model, of whose text one byte more than the limit is read at most. The
-- text that is given for it is the compiled text of the model that it says (`IsHeadline`), and its fault is the first
-- that it has.
pub record CompileMode (input : List ℕ) (end : End ModelFault) (seen : Seen) : Type 0 where
  pub run : OneTextRun (Some (longest_text + 1)) Gives HasFault input end seen
  pub answers : Answers (ToldUnder input seen) HasEnd (ReadFailed input seen) end seen
