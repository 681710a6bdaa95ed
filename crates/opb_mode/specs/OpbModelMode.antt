-- What a run in the mode opbmodel promises.
use Rattle.std.specs.Prelude.{◌≡◌, ℕ, ◌+◌, List, Some}
use Rattle.text_modes.specs.Seen.{Seen}
use Rattle.text_modes.specs.Promises.{ToldUnder, ReadFailed, Answers}
use Rattle.text_modes.specs.OneText.{OneTextRun}
use Rattle.text_modes.specs.declared.ends.Outcome.{Outcome}
use Rattle.text_modes.specs.declared.ends.Outcome.TheVariants.{Done, Refused, Unknown}
use Rattle.text_modes.specs.declared.ends.End.{End}
use Rattle.text_modes.specs.declared.ends.End.TheVariants.{Wrote, Fault}
use Rattle.model_texts.specs.declared.fault.ModelFault.{ModelFault}
use Rattle.model_texts.specs.ModelTexts.{longest_text, IsModelOf}
use Rattle.opb_front.specs.declared.items.Opb.{Opb}
use Rattle.opb_model.specs.Models.{opb_model}
use Rattle.opb_model.specs.Items.{opb_text}
use Rattle.opb_mode.specs.Files.{HoldsFile, HasFileFault}

-- what is written for a text that says a file: the canonical text of its model, which says that model
pub record IsModelText (text written : List ℕ) : Type 0 where
  pub opb : Opb
  pub file : HoldsFile text opb
  pub canonical : written ≡ opb_text opb
  pub says : IsModelOf written (opb_model opb)

abbrev pub Gives : List ℕ → Outcome → List ℕ → Type 0
Gives text Done written = IsModelText text written
Gives text (Refused line) written = ⊥
Gives text (Unknown count) written = ⊥

-- the end that a text has
abbrev pub HasEnd : List ℕ → End ModelFault → Type 0
HasEnd text (Wrote Done) = (opb : Opb) × HoldsFile text opb
HasEnd text (Fault fault) = HasFileFault text fault
HasEnd text end = ⊥

-- A run in the mode opbmodel, with the name of the file, of whose text one byte more than the limit is read at most.
-- The text that is given for it is that of the file's model, and its fault is the first that it has.
pub record OpbModelMode (input : List ℕ) (end : End ModelFault) (seen : Seen) : Type 0 where
  pub run : OneTextRun (Some (longest_text + 1)) Gives HasFileFault input end seen
  pub answers : Answers (ToldUnder input seen) HasEnd (ReadFailed input seen) end seen
