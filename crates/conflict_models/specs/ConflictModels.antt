-- The model that a text holds of which conflicts are asked, and why a text holds none. It differs from what is compiled
-- in the weight alone: no part of the model may be too heavy.
use Rattle.std.specs.Prelude.{◌≡◌, ◌⊎◌, ℕ, ◌<◌, ◌≤◌, List, length}
use Rattle.model_meaning.specs.declared.model.Model.{Model}
use Rattle.model_lower.specs.Weighed.{most_weight}
use Rattle.model_parts.specs.CoreWeight.{core_weight}
use Rattle.model_texts.specs.declared.fault.ModelFault.{ModelFault}
use Rattle.model_texts.specs.declared.fault.ModelFault.TheVariants as fault
use Rattle.model_texts.specs.declared.model_text.ModelTextFault.{ModelTextFault}
use Rattle.model_texts.specs.declared.model_text.ModelTextFault.TheVariants as text_fault
use Rattle.model_texts.specs.ModelTexts.{longest_text, IsModelOf, IsFirstFault}

-- a text within the limit says this model, none of whose parts is too heavy
pub record HoldsWhole (text : List ℕ) (model : Model) : Type 0 where
  pub within : length text ≤ longest_text
  pub says : IsModelOf text model
  pub light : core_weight model ≤ most_weight

-- a text within the limit has this fault first; its weight counts one for each `bool2int` that declares its integer
abbrev pub IsFirstFaultOf : List ℕ → ModelFault → Type 0
IsFirstFaultOf text (fault.TooHeavy weight) = (m : Model) × IsModelOf text m × (most_weight < core_weight m)
    × (weight ≡ core_weight m)
IsFirstFaultOf text f = IsFirstFault text f

-- a text is too long, or within the limit and has this fault first
abbrev pub HasFaultOf : List ℕ → ModelFault → Type 0
HasFaultOf text f = ((longest_text < length text) × (f ≡ fault.TooLong))
    ⊎ ((length text ≤ longest_text) × IsFirstFaultOf text f)

-- why nothing comes of a text
abbrev pub IsReasonOf : ModelTextFault → List ℕ → Type 0
IsReasonOf (text_fault.Model f) text = IsFirstFaultOf text f
IsReasonOf text_fault.Memory text = Unit {0}

-- a text has one first fault
abbrev pub OneFault : Type 0
OneFault = (text : List ℕ) (f g : ModelFault) → HasFaultOf text f → HasFaultOf text g → f ≡ g

-- or says a model none of whose parts is too heavy, and never both
abbrev pub NoFault : Type 0
NoFault = (text : List ℕ) (m : Model) (f : ModelFault) → HoldsWhole text m → HasFaultOf text f → ⊥

abbrev pub FaultOrWhole : Type 0
FaultOrWhole = (text : List ℕ) → ((f : ModelFault) × HasFaultOf text f) ⊎ ((m : Model) × HoldsWhole text m)
