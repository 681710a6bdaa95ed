-- What each end says in sat mode.
use Rattle.std.proofs.Common.{ℕ, ◌+◌, List}
use Rattle.std.specs.Prelude.{Some}
use Rattle.text_modes.specs.Seen.{Seen, Untouched}
use Rattle.text_modes.specs.OneText.{OneTextRun}
use Rattle.text_modes.specs.declared.ends.Outcome.{Outcome}
use Rattle.text_modes.specs.declared.ends.End.{End}
use Rattle.text_modes.specs.declared.ends.End.TheVariants.{Memory}
use Rattle.text_modes.proofs.OneFree.{faulty, finishes}
use Rattle.text_modes.proofs.Idle.{one_idle}
use Rattle.sat_front.specs.declared.text_fault.CnfTextFault.{CnfTextFault}
use Rattle.sat_front.specs.HeldCnfs.{longest_text, HasCnf, HasFault}
use Rattle.sat_front.proofs.TextFaults.{fit_or_fault, one_fault}
use Rattle.search_options.specs.declared.options.SearchOptions.{SearchOptions}
use Rattle.sat_mode.specs.Found.{IsSolved}
use Rattle.sat_mode.specs.SatMode.{SatMode}

fit : (options : SearchOptions) (text : List ℕ) (outcome : Outcome) (written : List ℕ) → IsSolved options text outcome written → HasCnf text
fit options text outcome written h = (h.cnf, h.held)

-- what is said of each end decides which end a told text has
pub mode : (options : SearchOptions) (input : List ℕ) (end : End CnfTextFault) (seen : Seen) → OneTextRun (Some (longest_text + 1)) (IsSolved options) HasFault input end seen → SatMode options input end seen
mode options input end seen r = record {
  run = r;
  faulty = faulty (Some (longest_text + 1)) (IsSolved options) HasFault HasCnf (fit options) fit_or_fault one_fault input seen end r.says;
  finishes = finishes (Some (longest_text + 1)) (IsSolved options) HasFault HasCnf (fit options) fit_or_fault one_fault input seen end r.says;
}

-- where memory is wanting before the mode begins
pub idle : (options : SearchOptions) (input : List ℕ) (seen : Seen) → Untouched seen → SatMode options input Memory seen
idle options input seen same = mode options input Memory seen (one_idle (Some (longest_text + 1)) HasFault seen same (IsSolved options) input)
