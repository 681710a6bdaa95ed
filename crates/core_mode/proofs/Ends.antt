-- What each end says in core mode.
use Rattle.std.proofs.Common.{◌≡◌, ℕ, ◌+◌, ◌<◌, ◌≤◌, List, length, sym, subst, inr, arith}
use Rattle.std.specs.Prelude.{Some}
use Rattle.text_modes.specs.Seen.{Seen, Untouched}
use Rattle.text_modes.specs.OneText.{OneTextRun}
use Rattle.text_modes.specs.TwoTexts.{HoldsSome}
use Rattle.text_modes.specs.declared.ends.Outcome.{Outcome}
use Rattle.text_modes.specs.declared.ends.End.{End}
use Rattle.text_modes.specs.declared.ends.End.TheVariants.{Memory}
use Rattle.text_modes.proofs.OneFree.{faulty, finishes}
use Rattle.text_modes.proofs.Idle.{one_idle}
use Rattle.model_meaning.specs.declared.model.Model.{Model}
use Rattle.model_lower.specs.declared.fault.LowerFault.{LowerFault}
use Rattle.model_lower.specs.declared.fault.LowerFault.TheVariants as lower
use Rattle.model_texts.specs.declared.fault.ModelFault.{ModelFault}
use Rattle.model_texts.specs.declared.fault.ModelFault.TheVariants as fault
use Rattle.model_texts.specs.declared.model_text.ModelTextFault.{ModelTextFault}
use Rattle.model_texts.specs.declared.model_text.ModelTextFault.TheVariants as text_fault
use Rattle.model_texts.specs.ModelTexts.{longest_text, IsModelOf, IsFirstFault, IsCauseOf}
use Rattle.model_texts.specs.HeldModels.{lower_fault_of}
use Rattle.model_texts.proofs.FirstFaults.{one_text_fault}
use Rattle.search_options.specs.declared.options.SearchOptions.{SearchOptions}
use Rattle.core_extract.specs.Extracted.{IsFaultOf}
use Rattle.conflict_models.specs.ConflictModels.{HoldsWhole, IsFirstFaultOf, HasFaultOf, IsReasonOf}
use Rattle.core_mode.specs.Conflicts.{IsConflictHeld}
use Rattle.core_mode.specs.CoreMode.{CoreMode}
use Rattle.conflict_models.proofs.Faults.{one-fault, held-fault}

held-or-fault : (text : List ℕ) (f : ModelFault) → HoldsSome HoldsWhole text → HasFaultOf text f → ⊥
held-or-fault text f h k = held-fault text h.0 f h.1 k

fit : (options : SearchOptions) (text : List ℕ) (outcome : Outcome) (written : List ℕ) → IsConflictHeld options text outcome written → HoldsSome HoldsWhole text
fit options text outcome written h = (h.model, h.held)

-- what is said of each end decides which end a told text has
pub mode : (options : SearchOptions) (input : List ℕ) (end : End ModelFault) (seen : Seen) → OneTextRun (Some (longest_text + 1)) (IsConflictHeld options) HasFaultOf input end seen → CoreMode options input end seen
mode options input end seen r = record {
  run = r;
  faulty = faulty (Some (longest_text + 1)) (IsConflictHeld options) HasFaultOf (HoldsSome HoldsWhole) (fit options) held-or-fault one-fault input seen end r.says;
  finishes = finishes (Some (longest_text + 1)) (IsConflictHeld options) HasFaultOf (HoldsSome HoldsWhole) (fit options) held-or-fault one-fault input seen end r.says;
}

-- where memory is wanting before the mode begins
pub idle : (options : SearchOptions) (input : List ℕ) (seen : Seen) → Untouched seen → CoreMode options input Memory seen
idle options input seen same = mode options input Memory seen (one_idle (Some (longest_text + 1)) HasFaultOf seen same (IsConflictHeld options) input)

-- a text below the limit and one byte is within it
pub within_limit : (text : List ℕ) → length text < 16777217 → length text ≤ longest_text
within_limit text h = omega arith

-- the fault of a text within the limit
pub had_fault : (text : List ℕ) (f : ModelFault) → length text < 16777217 → IsFirstFaultOf text f → HasFaultOf text f
had_fault text f h first = inr (within_limit text h, first)

-- Why a model that a text says isn't asked about, and why a text says none, as the fault of the text.

heavy-reason : (text : List ℕ) (m : Model) (f : LowerFault) → IsModelOf text m → IsFaultOf f m → IsReasonOf (lower_fault_of f) text
heavy-reason text m (lower.TooHeavy w) says h = (m, says, h.0, h.1)
heavy-reason text m lower.Memory says h = tt

pub heavy-caused : (text : List ℕ) (m : Model) (f : LowerFault) (e : ModelTextFault) → IsModelOf text m → IsFaultOf f m → e ≡ lower_fault_of f → IsReasonOf e text
heavy-caused text m f e says h same = subst (λ (x : ModelTextFault). IsReasonOf x text) (sym same) (heavy-reason text m f says h)
