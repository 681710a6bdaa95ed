-- A text says a model that is compiled, or it has a fault.
use Rattle.std.proofs.Common.{◌≡◌, ℕ, ◌<◌, ◌≤◌, ◌⊎◌, inl, inr, List, length, refl, ⊎_elim, Option, Some, None}
use Rattle.std.proofs.lemmas.Bool.{cases_lt}
use Rattle.bumblebee_reader.specs.declared.syntax.Syntax.{Syntax}
use Rattle.bumblebee_reader.specs.Grammar.{IsText}
use Rattle.bumblebee_reader.specs.Faults.{IsSyntaxFault, IsNumberFault}
use Rattle.bumblebee_reader.proofs.Text.{text_or_fault_lem}
use Rattle.model_meaning.specs.declared.model.Model.{Model}
use Rattle.typed_model.specs.declared.fault.TypeFault.{TypeFault}
use Rattle.typed_model.specs.Items.{first_fault, model_of}
use Rattle.model_weight.specs.Weight.{weight_of}
use Rattle.model_lower.specs.Weighed.{most_weight}
use Rattle.model_texts.specs.declared.fault.ModelFault.{ModelFault}
use Rattle.model_texts.specs.declared.fault.ModelFault.TheVariants as fault
use Rattle.model_texts.specs.ModelTexts.{longest_text, IsModelOf, HasFault}
use Rattle.model_texts.specs.HeldModels.{HoldsModel}

abbrev pub FaultOrModel : List ℕ → Type 0
FaultOrModel text = ((f : ModelFault) × HasFault text f) ⊎ ((m : Model) × HoldsModel text m)

module _ (text : List ℕ) (within : length text ≤ longest_text) where
  by-syntax : (s : Syntax) → IsText text s → (o : Option TypeFault) → first_fault s.items ≡ o → FaultOrModel text
  by-syntax s is (Some f) e = inl (fault.Typed f, inr (within, (s, is, e)))
  by-syntax s is None e = ⊎_elim heavy light (cases_lt most_weight (weight_of (model_of s.items)))
    where
      says : IsModelOf text (model_of s.items)
      says = record { syntax = s; spelled = is; no_fault = e; model_is = refl }

      heavy : most_weight < weight_of (model_of s.items) → FaultOrModel text
      heavy h = inl (fault.TooHeavy (weight_of (model_of s.items)), inr (within, (model_of s.items, says, h, refl)))

      light : weight_of (model_of s.items) ≤ most_weight → FaultOrModel text
      light h = inr (model_of s.items, record { within = within; says = says; light = h })

  by-text : ((s : Syntax) × IsText text s) ⊎ (((line : ℕ) × IsSyntaxFault text line) ⊎ ((line : ℕ) × IsNumberFault text line)) → FaultOrModel text
  by-text (inl p) = by-syntax p.0 p.1 (first_fault p.0.items) refl
  by-text (inr (inl p)) = inl (fault.Syntax p.0, inr (within, p.1))
  by-text (inr (inr p)) = inl (fault.Number p.0, inr (within, p.1))

pub fault_or_model : (text : List ℕ) → FaultOrModel text
fault_or_model text = ⊎_elim
    (λ (long : longest_text < length text). inl (fault.TooLong, inl (long, refl)))
    (λ (within : length text ≤ longest_text). by-text text within (text_or_fault_lem text))
    (cases_lt longest_text (length text))
