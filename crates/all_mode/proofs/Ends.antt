-- What each end says in the mode of all solutions.
use Rattle.std.proofs.Common.{ℕ, ◌+◌, ◌<◌, ◌≤◌, List, length, inr, arith}
use Rattle.std.specs.Prelude.{Some}
use Rattle.text_modes.specs.Seen.{Seen, Untouched}
use Rattle.text_modes.specs.OneText.{OneTextRun}
use Rattle.text_modes.specs.declared.ends.Outcome.{Outcome}
use Rattle.text_modes.specs.declared.ends.End.{End}
use Rattle.text_modes.specs.declared.ends.End.TheVariants.{Memory}
use Rattle.text_modes.proofs.OneFree.{faulty, finishes}
use Rattle.text_modes.proofs.Idle.{one_idle}
use Rattle.model_texts.specs.declared.fault.ModelFault.{ModelFault}
use Rattle.model_texts.specs.ModelTexts.{longest_text, IsFirstFault, HasFault}
use Rattle.model_texts.proofs.FirstFaults.{one_text_fault, no_text_fault}
use Rattle.search_options.specs.declared.options.SearchOptions.{SearchOptions}
use Rattle.all_mode.specs.Listed.{IsListed}
use Rattle.all_mode.specs.AllMode.{HasModel, AllMode}

fit : (options : SearchOptions) (text : List ℕ) (outcome : Outcome) (written : List ℕ) → IsListed options text outcome written → HasModel text
fit options text outcome written h = (h.lists.model, h.lists.held)

fit_or_fault : (text : List ℕ) (fault : ModelFault) → HasModel text → HasFault text fault → ⊥
fit_or_fault text fault h k = no_text_fault text fault h.0 h.1.within h.1.says h.1.light k

-- what is said of each end decides which end a told text has
pub mode : (options : SearchOptions) (input : List ℕ) (end : End ModelFault) (seen : Seen) → OneTextRun (Some (longest_text + 1)) (IsListed options) HasFault input end seen → AllMode options input end seen
mode options input end seen r = record {
  run = r;
  faulty = faulty (Some (longest_text + 1)) (IsListed options) HasFault HasModel (fit options) fit_or_fault one_text_fault input seen end r.says;
  finishes = finishes (Some (longest_text + 1)) (IsListed options) HasFault HasModel (fit options) fit_or_fault one_text_fault input seen end r.says;
}

-- where memory is wanting before the mode begins
pub idle : (options : SearchOptions) (input : List ℕ) (seen : Seen) → Untouched seen → AllMode options input Memory seen
idle options input seen same = mode options input Memory seen (one_idle (Some (longest_text + 1)) HasFault seen same (IsListed options) input)

-- a text below the limit and one byte is within it
pub within_limit : (text : List ℕ) → length text < 16777217 → length text ≤ longest_text
within_limit text h = omega arith

-- the fault of a text within the limit
pub had_fault : (text : List ℕ) (f : ModelFault) → length text < 16777217 → IsFirstFault text f → HasFault text f
had_fault text f h first = inr (within_limit text h, first)
