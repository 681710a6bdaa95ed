-- Two texts have one end in checkcore mode.
use Rattle.std.proofs.Common.{ℕ, List}
use Rattle.model_meaning.specs.declared.model.Model.{Model}
use Rattle.model_meaning.specs.Limits.{InLimits}
use Rattle.text_modes.specs.Seen.{Seen, Untouched}
use Rattle.text_modes.specs.declared.ends.End.TheVariants.{Memory}
use Rattle.model_texts.proofs.OneModel.{one_model}
use Rattle.model_texts.proofs.ModelShapes.{limited}
use Rattle.check_modes.proofs.Ends.{IsOneEach}
use Rattle.check_modes.proofs.Ends as checking
use Rattle.conflict_models.specs.ConflictModels.{HoldsWhole}
use Rattle.conflict_models.proofs.Faults.{one-fault, held-fault}
use Rattle.conflict_text.proofs.OneText.{one-misfit}
use Rattle.check_modes.specs.CheckCoreMode.{conflicts, CheckCoreMode}

-- the numbers of a model that a text holds are in their limits
pub held_limits : (text : List ℕ) (model : Model) → HoldsWhole text model → InLimits model
held_limits text model h = limited text model h.within h.says

pub one : IsOneEach conflicts
one = record {
  one_model = λ text m n h k. one_model text m n h.says k.says;
  one_fault = one-fault;
  fit_or_fault = held-fault;
  true_valid = λ m text v is. record { stands = is.stands; whole = is.whole; verdict = is.verdict };
  valid_or_line = λ m text v line h k. k.invalid v h;
  one_line = λ first m text a b held h k. one-misfit m text a b (held_limits first m held) h.first k.first;
}

-- where memory is wanting before the mode begins
pub idle : (input second : List ℕ) (seen : Seen) → Untouched seen → CheckCoreMode input second Memory seen
idle = checking.idle conflicts one
