-- Two texts have one end in checkall mode.
use Rattle.std.proofs.Common.{ℕ, List}
use Rattle.model_meaning.specs.declared.model.Model.{Model}
use Rattle.model_meaning.specs.Limits.{InLimits}
use Rattle.text_modes.specs.Seen.{Seen, Untouched}
use Rattle.text_modes.specs.declared.ends.End.TheVariants.{Memory}
use Rattle.model_texts.specs.HeldModels.{HoldsModel}
use Rattle.model_texts.proofs.FirstFaults.{one_text_fault, no_text_fault}
use Rattle.model_texts.proofs.OneModel.{one_model}
use Rattle.model_texts.proofs.ModelShapes.{limited}
use Rattle.check_modes.proofs.Ends.{IsOneEach}
use Rattle.check_modes.proofs.Ends as checking
use Rattle.list_text.proofs.OneNext.{one-misfit}
use Rattle.check_modes.specs.CheckAllMode.{lists, CheckAllMode}

-- the numbers of a model that a text holds are in their limits
pub held_limits : (text : List ℕ) (model : Model) → HoldsModel text model → InLimits model
held_limits text model h = limited text model h.within h.says

pub one : IsOneEach lists
one = record {
  one_model = λ text m n h k. one_model text m n h.says k.says;
  one_fault = one_text_fault;
  fit_or_fault = λ text m f h k. no_text_fault text f m h.within h.says h.light k;
  true_valid = λ m text v is. (is.listed, is.valid);
  valid_or_line = λ m text v line h k. k.invalid v h.0 h.1;
  one_line = λ first m text a b held h k. one-misfit m text a b (held_limits first m held) h.first k.first;
}

-- where memory is wanting before the mode begins
pub idle : (input second : List ℕ) (seen : Seen) → Untouched seen → CheckAllMode input second Memory seen
idle = checking.idle lists one
