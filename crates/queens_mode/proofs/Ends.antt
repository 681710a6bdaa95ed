-- What each end says in the mode of queens.
use Rattle.std.proofs.Common.{◌≡◌, ℕ, List, refl, inl, inr}
use Rattle.text_modes.specs.Seen.{Seen, Untouched}
use Rattle.text_modes.specs.Promises.{Finishes}
use Rattle.text_modes.specs.NoText.{NothingRead, Says, NoTextRun}
use Rattle.text_modes.specs.declared.ends.Outcome.{Outcome}
use Rattle.text_modes.specs.declared.ends.End.{End}
use Rattle.text_modes.specs.declared.ends.End.TheVariants.{Wrote, Fault, Read, Write, Memory}
use Rattle.text_modes.proofs.Idle.{none_idle}
use Rattle.search_options.specs.declared.options.SearchOptions.{SearchOptions}
use Rattle.queens_mode.specs.QueensMode.{IsPlaced, QueensMode}

-- a run without a fault of writing ends in a text, or memory is wanting
finishes : {F : Type 0} (Gives : Outcome → List ℕ → Type 0) (end : End F) (seen : Seen) → Says Gives end seen → Finishes NothingRead NothingRead ⊥ end seen
finishes Gives (Wrote outcome) seen s = record { complete = λ nothing told fit read write. inl (outcome, refl) }
finishes Gives (Fault fault) seen s = absurd s
finishes Gives Read seen s = absurd s
finishes Gives Write seen s = record { complete = λ nothing told fit read write. absurd (write s.1) }
finishes Gives Memory seen s = record { complete = λ nothing told fit read write. inr refl }

pub mode : {F : Type 0} (options : SearchOptions) (size : ℕ) (end : End F) (seen : Seen) → NoTextRun (IsPlaced options size) end seen → QueensMode options size end seen
mode options size end seen r = record { run = r; finishes = finishes (IsPlaced options size) end seen r.says }

-- where memory is wanting before the mode begins
pub idle : {F : Type 0} (options : SearchOptions) (size : ℕ) (seen : Seen) → Untouched seen → QueensMode {F = F} options size Memory seen
idle {F} options size seen same = mode {F = F} options size Memory seen (none_idle {F = F} (IsPlaced options size) seen same)
