-- The model that a text holds, as it is compiled.
use Rattle.std.specs.Prelude.{◌≡◌, ℕ, ◌≤◌, List, length}
use Rattle.model_meaning.specs.declared.model.Model.{Model}
use Rattle.model_weight.specs.Weight.{weight_of}
use Rattle.model_lower.specs.declared.fault.LowerFault.{LowerFault}
use Rattle.model_lower.specs.declared.fault.LowerFault.TheVariants as lower
use Rattle.model_lower.specs.Lowering.{lowered_of}
use Rattle.model_lower.specs.Weighed.{most_weight}
use Rattle.model_texts.specs.declared.held_models.HeldModel.{HeldModel}
use Rattle.model_texts.specs.declared.model_text.ModelTextFault.{ModelTextFault}
use Rattle.model_texts.specs.declared.model_text.ModelTextFault.TheVariants as text_fault
use Rattle.model_texts.specs.declared.fault.ModelFault.TheVariants as fault
use Rattle.model_texts.specs.ModelTexts.{longest_text, IsModelOf}

-- a text within the limit says this model, which is not too heavy
pub record HoldsModel (text : List ℕ) (model : Model) : Type 0 where
  pub within : length text ≤ longest_text
  pub says : IsModelOf text model
  pub light : weight_of model ≤ most_weight

-- and it is lowered to these cores
abbrev pub HoldsLowered : List ℕ → HeldModel → Type 0
HoldsLowered text held = HoldsModel text held.model × (held.lowered ≡ lowered_of held.model)

-- what a fault of the lowering makes of a text
abbrev pub lower_fault_of : LowerFault → ModelTextFault
lower_fault_of (lower.TooHeavy weight) = text_fault.Model (fault.TooHeavy weight)
lower_fault_of lower.Memory = text_fault.Memory
