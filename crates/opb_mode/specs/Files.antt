-- The model that a pseudo-Boolean file stands for, and why a file stands for none that is solved.
use Rattle.std.specs.Prelude.{◌≡◌, ◌⊎◌, ℕ, ◌<◌, ◌≤◌, List, length}
use Rattle.model_meaning.specs.declared.model.Model.{Model}
use Rattle.model_weight.specs.Weight.{weight_of}
use Rattle.model_lower.specs.Weighed.{most_weight}
use Rattle.model_texts.specs.declared.model_text.ModelTextFault.{ModelTextFault}
use Rattle.model_texts.specs.declared.model_text.ModelTextFault.TheVariants as text_fault
use Rattle.model_texts.specs.declared.fault.ModelFault.{ModelFault}
use Rattle.model_texts.specs.declared.fault.ModelFault.TheVariants as fault
use Rattle.model_texts.specs.ModelTexts.{longest_text}
use Rattle.opb_front.specs.declared.fault.OpbFault.{OpbFault}
use Rattle.opb_front.specs.declared.fault.OpbFault.TheVariants as opb_fault
use Rattle.opb_front.specs.declared.items.Opb.{Opb}
use Rattle.opb_front.specs.Grammar.{IsOpbText}
use Rattle.opb_front.specs.Faults.{IsFaultOf}
use Rattle.opb_model.specs.Models.{opb_model}
use Rattle.opb_model.specs.Items.{opb_text}

-- a text within the limit says this file, the text of whose model is within the limit
pub record HoldsFile (text : List ℕ) (opb : Opb) : Type 0 where
  pub within : length text ≤ longest_text
  pub says : IsOpbText text opb
  pub short : length (opb_text opb) ≤ longest_text

-- a text says a file whose model is this, which is not too heavy
pub record HoldsFileModel (text : List ℕ) (model : Model) : Type 0 where
  pub opb : Opb
  pub file : HoldsFile text opb
  pub model_is : model ≡ opb_model opb
  pub light : weight_of model ≤ most_weight

-- a text within the limit has this fault first: that of the file, or a model's text that is too long
abbrev pub IsFileFault : List ℕ → ModelFault → Type 0
IsFileFault text fault.TooLong = (opb : Opb) × IsOpbText text opb × (longest_text < length (opb_text opb))
IsFileFault text (fault.Syntax line) = IsFaultOf text (opb_fault.Syntax line)
IsFileFault text (fault.Number line) = IsFaultOf text (opb_fault.Number line)
IsFileFault text f = ⊥

-- a text is too long, or within the limit and has this fault first
abbrev pub HasFileFault : List ℕ → ModelFault → Type 0
HasFileFault text f = ((longest_text < length text) × (f ≡ fault.TooLong))
    ⊎ ((length text ≤ longest_text) × IsFileFault text f)

-- a text has no such fault, but its model is too heavy
abbrev pub IsHeavyFile : List ℕ → ModelFault → Type 0
IsHeavyFile text (fault.TooHeavy weight) = (opb : Opb) × HoldsFile text opb
    × (most_weight < weight_of (opb_model opb)) × (weight ≡ weight_of (opb_model opb))
IsHeavyFile text f = ⊥

-- the first fault of a text that is to be solved
abbrev pub HasOpbFault : List ℕ → ModelFault → Type 0
HasOpbFault text f = HasFileFault text f ⊎ IsHeavyFile text f

-- why nothing comes of a text within the limit; want of memory is no fault of it

abbrev pub IsFileCause : List ℕ → ModelTextFault → Type 0
IsFileCause text (text_fault.Model f) = IsFileFault text f
IsFileCause text text_fault.Memory = Unit {0}

abbrev pub IsOpbCause : List ℕ → ModelTextFault → Type 0
IsOpbCause text (text_fault.Model f) = IsFileFault text f ⊎ IsHeavyFile text f
IsOpbCause text text_fault.Memory = Unit {0}

-- what a fault of a file makes of a text
abbrev pub file_fault_of : OpbFault → ModelTextFault
file_fault_of (opb_fault.Syntax line) = text_fault.Model (fault.Syntax line)
file_fault_of (opb_fault.Number line) = text_fault.Model (fault.Number line)
file_fault_of opb_fault.Memory = text_fault.Memory
