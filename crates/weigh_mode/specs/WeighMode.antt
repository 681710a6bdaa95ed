-- What a run in weigh mode promises.
use Rattle.std.specs.Prelude.{◌≡◌, ℕ, ◌+◌, ◌≤◌, List, length, Option, Some, None}
use Rattle.text_modes.specs.Seen.{Seen}
use Rattle.text_modes.specs.Promises.{ToldUnder, ReadFailed, Answers}
use Rattle.text_modes.specs.OneText.{OneTextRun}
use Rattle.text_modes.specs.declared.ends.Outcome.{Outcome}
use Rattle.text_modes.specs.declared.ends.Outcome.TheVariants.{Done, Refused, Unknown}
use Rattle.text_modes.specs.declared.ends.End.{End}
use Rattle.text_modes.specs.declared.ends.End.TheVariants.{Wrote, Fault}
use Rattle.model_meaning.specs.declared.model.Model.{Model}
use Rattle.model_texts.specs.declared.fault.ModelFault.{ModelFault}
use Rattle.model_texts.specs.declared.fault.ModelFault.TheVariants as fault
use Rattle.model_texts.specs.ModelTexts.{longest_text, IsModelOf, HasFault}
use Rattle.weigh_mode.specs.WeighingText.{weighing_text}

-- a text has this fault first, of length, form or types; that it says a model that is too heavy is none here
abbrev pub HasFormFault : List ℕ → ModelFault → Type 0
HasFormFault text (fault.TooHeavy weight) = ⊥
HasFormFault text f = HasFault text f

-- what is told of a fault
abbrev pub form_fault_of : ModelFault → Option ModelFault
form_fault_of (fault.TooHeavy weight) = None
form_fault_of f = Some f

-- a text within the limit says a model, and the text written is its weight and its heaviest items
pub record IsWeighed (text written : List ℕ) : Type 0 where
  pub within : length text ≤ longest_text
  pub model : Model
  pub says : IsModelOf text model
  pub writes : written ≡ weighing_text model

-- what is written for a text, by its outcome
abbrev pub Gives : List ℕ → Outcome → List ℕ → Type 0
Gives text Done written = IsWeighed text written
Gives text (Refused line) written = ⊥
Gives text (Unknown count) written = ⊥

-- the end that a text has
abbrev pub HasEnd : List ℕ → End ModelFault → Type 0
HasEnd text (Wrote Done) = (length text ≤ longest_text) × (model : Model) × IsModelOf text model
HasEnd text (Fault fault) = HasFormFault text fault
HasEnd text end = ⊥

-- A run in weigh mode, with the name of the model, of whose text one byte more than the limit is read at most. The text
-- that is given for it tells what the model that it says weighs, and its fault is the first that it has.
pub record WeighMode (input : List ℕ) (end : End ModelFault) (seen : Seen) : Type 0 where
  pub run : OneTextRun (Some (longest_text + 1)) Gives HasFormFault input end seen
  pub answers : Answers (ToldUnder input seen) HasEnd (ReadFailed input seen) end seen
