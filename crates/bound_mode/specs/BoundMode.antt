-- What a run in bound mode promises.
use Rattle.std.specs.Prelude.{ℕ, ℤ, ◌+◌, ◌≤◌, List, length, Some}
use Rattle.text_modes.specs.Seen.{Seen}
use Rattle.text_modes.specs.Promises.{ToldUnder, ReadFailed, Answers}
use Rattle.text_modes.specs.OneText.{OneTextRun}
use Rattle.text_modes.specs.declared.ends.Outcome.TheVariants.{Done}
use Rattle.text_modes.specs.declared.ends.End.{End}
use Rattle.text_modes.specs.declared.ends.End.TheVariants.{Wrote, Fault}
use Rattle.model_texts.specs.ModelTexts.{longest_text}
use Rattle.bound_mode.specs.declared.fault.BoundFault.{BoundFault}
use Rattle.bound_mode.specs.Bounded.{IsBoundable, Gives, HasFault}

-- the end that a text has
abbrev pub HasEnd : List ℕ → End BoundFault → Type 0
HasEnd text (Wrote Done) = (length text ≤ longest_text) × IsBoundable text
HasEnd text (Fault fault) = HasFault text fault
HasEnd text end = ⊥

-- A run in bound mode, with the number and the name of the model, of whose text one byte more than the limit is read at
-- most. The text that is given for it stands for the solutions with a better objective (`IsHeadline`), and its fault is
-- the first that it has.
pub record BoundMode (m : ℤ) (input : List ℕ) (end : End BoundFault) (seen : Seen) : Type 0 where
  pub run : OneTextRun (Some (longest_text + 1)) (Gives m) HasFault input end seen
  pub answers : Answers (ToldUnder input seen) HasEnd (ReadFailed input seen) end seen
