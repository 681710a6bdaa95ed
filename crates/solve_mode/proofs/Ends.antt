-- What each end says in solve mode.
use Rattle.std.proofs.Common.{◌≡◌, ℕ, ◌+◌, ◌<◌, ◌≤◌, List, length, inr, arith}
use Rattle.std.specs.Prelude.{Some}
use Rattle.text_modes.specs.Seen.{Seen, Untouched}
use Rattle.text_modes.specs.OneText.{OneTextRun}
use Rattle.text_modes.specs.declared.ends.Outcome.{Outcome}
use Rattle.text_modes.specs.declared.ends.End.{End}
use Rattle.text_modes.specs.declared.ends.End.TheVariants.{Memory}
use Rattle.text_modes.proofs.OneFree.{faulty, finishes}
use Rattle.text_modes.proofs.Idle.{one_idle}
use Rattle.answer_document.specs.Valid.{numbers_given}
use Rattle.answer_document.proofs.ClaimLaws.{claim_law}
use Rattle.model_texts.specs.declared.fault.ModelFault.{ModelFault}
use Rattle.model_texts.specs.ModelTexts.{longest_text, IsFirstFault, HasFault}
use Rattle.model_texts.proofs.FirstFaults.{one_text_fault, no_text_fault}
use Rattle.model_texts.proofs.ModelShapes.{typed, limited}
use Rattle.search_options.specs.declared.options.SearchOptions.{SearchOptions}
use Rattle.model_meaning.specs.declared.model.Model.{Model}
use Rattle.model_meaning.specs.WellTyped.{WellTyped}
use Rattle.model_meaning.specs.Limits.{InLimits}
use Rattle.model_weight.specs.Weight.{weight_of}
use Rattle.model_lower.specs.Weighed.{most_weight}
use Rattle.text_modes.specs.TwoTexts.{HoldsSome}
use Rattle.model_texts.specs.HeldModels.{HoldsModel}
use Rattle.solve_mode.specs.Solved.{AnswersHeld, IsSolvedHeld, Answers, IsSolved}
use Rattle.solve_mode.specs.SolveMode.{HasModel, SolveRun, SolveMode}

-- Where a text has one fault at most, and none if it holds a model.
module _ (Holds : List ℕ → Model → Type 0) (Faulty : List ℕ → ModelFault → Type 0)
    (held_or_fault : (text : List ℕ) (fault : ModelFault) → HoldsSome Holds text → Faulty text fault → ⊥)
    (one_fault : (text : List ℕ) (f g : ModelFault) → Faulty text f → Faulty text g → f ≡ g) where
  fit : (options : SearchOptions) (text : List ℕ) (outcome : Outcome) (written : List ℕ) → IsSolvedHeld Holds options text outcome written → HoldsSome Holds text
  fit options text outcome written h = (h.answer.model, h.answer.held)

  -- what is said of each end decides which end a told text has
  pub run_mode : (options : SearchOptions) (input : List ℕ) (end : End ModelFault) (seen : Seen) → OneTextRun (Some (longest_text + 1)) (IsSolvedHeld Holds options) Faulty input end seen
      → SolveRun Holds Faulty options input end seen
  run_mode options input end seen r = record {
    run = r;
    faulty = faulty (Some (longest_text + 1)) (IsSolvedHeld Holds options) Faulty (HoldsSome Holds) (fit options) held_or_fault one_fault input seen end r.says;
    finishes = finishes (Some (longest_text + 1)) (IsSolvedHeld Holds options) Faulty (HoldsSome Holds) (fit options) held_or_fault one_fault input seen end r.says;
  }

  -- where memory is wanting before the mode begins
  pub run_idle : (options : SearchOptions) (input : List ℕ) (seen : Seen) → Untouched seen → SolveRun Holds Faulty options input Memory seen
  run_idle options input seen same = run_mode options input Memory seen (one_idle (Some (longest_text + 1)) Faulty seen same (IsSolvedHeld Holds options) input)

fit_or_fault : (text : List ℕ) (fault : ModelFault) → HasModel text → HasFault text fault → ⊥
fit_or_fault text fault h k = no_text_fault text fault h.0 h.1.within h.1.says h.1.light k

pub mode : (options : SearchOptions) (input : List ℕ) (end : End ModelFault) (seen : Seen) → OneTextRun (Some (longest_text + 1)) (IsSolved options) HasFault input end seen → SolveMode options input end seen
mode = run_mode HoldsModel HasFault fit_or_fault one_text_fault

pub idle : (options : SearchOptions) (input : List ℕ) (seen : Seen) → Untouched seen → SolveMode options input Memory seen
idle = run_idle HoldsModel HasFault fit_or_fault one_text_fault

-- a text below the limit and one byte is within it
pub within_limit : (text : List ℕ) → length text < 16777217 → length text ≤ longest_text
within_limit text h = omega arith

-- the fault of a text within the limit
pub had_fault : (text : List ℕ) (f : ModelFault) → length text < 16777217 → IsFirstFault text f → HasFault text f
had_fault text f h first = inr (within_limit text h, first)

-- what an answer says is true
pub given_held : (Holds : List ℕ → Model → Type 0) (options : SearchOptions) (text : List ℕ) (outcome : Outcome) (written : List ℕ) (h : AnswersHeld Holds options text outcome written)
    → WellTyped h.model → InLimits h.model → weight_of h.model ≤ most_weight → IsSolvedHeld Holds options text outcome written
given_held Holds options text outcome written h well limits light =
    let d = h.is.document in
    record { answer = h; true_claims = claim_law h.model _ d.verdict (numbers_given d.assignment) well limits light h.is.is.valid }

pub given_text : (options : SearchOptions) (text : List ℕ) (outcome : Outcome) (written : List ℕ) → Answers options text outcome written → IsSolved options text outcome written
given_text options text outcome written h =
    given_held HoldsModel options text outcome written h (typed text h.model h.held.says) (limited text h.model h.held.within h.held.says) h.held.light

-- what a text that is made, and one that has a fault, give
pub ruleset ends = (given_text, had_fault, within_limit)
