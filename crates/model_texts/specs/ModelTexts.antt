-- The model that a text says, and why a text says none that is compiled.
use Rattle.std.specs.Prelude.{◌≡◌, ◌⊎◌, ℕ, ◌<◌, ◌≤◌, List, length, Some, None}
use Rattle.bumblebee_reader.specs.declared.syntax.Syntax.{Syntax}
use Rattle.bumblebee_reader.specs.declared.fault.ReadFault.{ReadFault}
use Rattle.bumblebee_reader.specs.declared.fault.ReadFault.TheVariants as read_fault
use Rattle.bumblebee_reader.specs.Grammar.{IsText}
use Rattle.bumblebee_reader.specs.Faults.{IsSyntaxFault, IsNumberFault}
use Rattle.model_meaning.specs.declared.model.Model.{Model}
use Rattle.typed_model.specs.declared.fault.TypeFault.{TypeFault}
use Rattle.typed_model.specs.declared.fault.TypeFault.TheVariants as type_fault
use Rattle.typed_model.specs.Items.{first_fault, model_of}
use Rattle.model_weight.specs.Weight.{weight_of}
use Rattle.model_lower.specs.Weighed.{most_weight}
use Rattle.model_texts.specs.declared.model_text.ModelTextFault.{ModelTextFault}
use Rattle.model_texts.specs.declared.model_text.ModelTextFault.TheVariants as text_fault
use Rattle.model_texts.specs.declared.fault.ModelFault.{ModelFault}
use Rattle.model_texts.specs.declared.fault.ModelFault.TheVariants as fault

-- the greatest number of bytes of a model's text
abbrev pub longest_text : ℕ
longest_text = 16777216

-- a text of the language whose items have no fault says this model
pub record IsModelOf (text : List ℕ) (model : Model) : Type 0 where
  pub syntax : Syntax
  pub spelled : IsText text syntax
  pub no_fault : first_fault syntax.items ≡ None
  pub model_is : model ≡ model_of syntax.items

-- a text within the limit has this fault first: a token that fits nowhere or a numeral that is too great, whichever
-- stands first; a fault of its items; or a weight above the limit
abbrev pub IsFirstFault : List ℕ → ModelFault → Type 0
IsFirstFault text fault.TooLong = ⊥
IsFirstFault text (fault.Syntax line) = IsSyntaxFault text line
IsFirstFault text (fault.Number line) = IsNumberFault text line
IsFirstFault text (fault.Typed f) = (s : Syntax) × IsText text s × (first_fault s.items ≡ Some f)
IsFirstFault text (fault.TooHeavy weight) = (m : Model) × IsModelOf text m × (most_weight < weight_of m)
    × (weight ≡ weight_of m)
IsFirstFault text (fault.Cnf line) = ⊥

-- a text is too long, or within the limit and has this fault first
abbrev pub HasFault : List ℕ → ModelFault → Type 0
HasFault text f = ((longest_text < length text) × (f ≡ fault.TooLong))
    ⊎ ((length text ≤ longest_text) × IsFirstFault text f)

-- what a fault of the items makes of a text: want of memory is no fault of it
abbrev pub text_fault_of : TypeFault → ModelTextFault
text_fault_of type_fault.Memory = text_fault.Memory
text_fault_of f = text_fault.Model (fault.Typed f)

-- what a fault of the reading makes of a text
abbrev pub read_fault_of : ReadFault → ModelTextFault
read_fault_of (read_fault.Syntax line) = text_fault.Model (fault.Syntax line)
read_fault_of (read_fault.Number line) = text_fault.Model (fault.Number line)
read_fault_of read_fault.Memory = text_fault.Memory

-- why nothing comes of a text
abbrev pub IsCauseOf : ModelTextFault → List ℕ → Type 0
IsCauseOf (text_fault.Model f) text = IsFirstFault text f
IsCauseOf text_fault.Memory text = Unit {0}
