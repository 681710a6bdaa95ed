-- Two texts have one end in check mode.
use Rattle.std.proofs.Common.{ℕ, List}
use Rattle.text_modes.specs.Seen.{Seen, Untouched}
use Rattle.text_modes.specs.declared.ends.End.TheVariants.{Memory}
use Rattle.model_texts.proofs.FirstFaults.{one_text_fault, no_text_fault}
use Rattle.model_texts.proofs.OneModel.{one_model}
use Rattle.check_modes.proofs.Ends.{IsOneEach}
use Rattle.check_modes.proofs.Ends as checking
use Rattle.ledger_check.proofs.OneFault.{one_first_fault}
use Rattle.check_modes.specs.CheckMode.{answers, CheckMode}

pub one : IsOneEach answers
one = record {
  one_model = λ text m n h k. one_model text m n h.says k.says;
  one_fault = one_text_fault;
  fit_or_fault = λ text m f h k. no_text_fault text f m h.within h.says h.light k;
  true_valid = λ m text v is. (is.assignment, is.valid);
  valid_or_line = λ m text v line h k. k.1.invalid v h.0 h.1;
  one_line = λ first m text a b held h k. one_first_fault m text a b h.0 k.0 h.1.first k.1.first;
}

-- where memory is wanting before the mode begins
pub idle : (input second : List ℕ) (seen : Seen) → Untouched seen → CheckMode input second Memory seen
idle = checking.idle answers one
