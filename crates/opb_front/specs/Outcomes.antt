-- What comes of a text that is read token by token.
use Rattle.std.specs.Prelude.{◌≡◌, ◌⊎◌, ℕ, List, length, Result, Ok, Err}
use Rattle.opb_front.specs.declared.items.Opb.{Opb}
use Rattle.opb_front.specs.declared.fault.Misfit.{Misfit}
use Rattle.opb_front.specs.declared.fault.Misfit.TheVariants as misfit
use Rattle.opb_front.specs.declared.fault.OpbFault.{OpbFault}
use Rattle.opb_front.specs.declared.fault.OpbFault.TheVariants.{Syntax, Number, Memory}
use Rattle.opb_front.specs.declared.reading.Taken.{Taken}
use Rattle.opb_front.specs.declared.reading.Taken.TheVariants.{All, Stopped}
use Rattle.opb_front.specs.Words.{text_lines}
use Rattle.opb_front.specs.Steps.{Draft, nothing_read, run_lines, IsEnded}

-- the fault in a line
abbrev pub fault_at : Misfit → ℕ → OpbFault
fault_at misfit.Syntax line = Syntax line
fault_at misfit.Number line = Number line

-- how the lines of a text are taken from one standing to another
abbrev pub IsTakenFrom : Draft → List ℕ → Draft → Taken → Type 0
IsTakenFrom s text u (All lines) = (run_lines 1 s (text_lines text) ≡ Ok u) × (lines ≡ length (text_lines text))
IsTakenFrom s text u (Stopped m line) = run_lines 1 s (text_lines text) ≡ Err (m, line)

-- what a whole text says
abbrev pub opb_of : Draft → Opb
opb_of s = record { vars = s.vars; objective = s.objective; constraints = s.constraints }

-- all tokens are taken, but the text ends too early
abbrev pub StopsEarly : List ℕ → ℕ → Type 0
StopsEarly text line = (s : Draft) × (run_lines 1 nothing_read (text_lines text) ≡ Ok s) × (IsEnded s → ⊥)
    × (line ≡ length (text_lines text))

-- what comes of a text
abbrev pub IsOutcome : List ℕ → Result Opb OpbFault → Type 0
IsOutcome text (Ok opb) = (s : Draft) × (run_lines 1 nothing_read (text_lines text) ≡ Ok s) × IsEnded s
    × (opb ≡ opb_of s)
IsOutcome text (Err (Syntax line)) = (run_lines 1 nothing_read (text_lines text) ≡ Err (misfit.Syntax, line))
    ⊎ StopsEarly text line
IsOutcome text (Err (Number line)) = run_lines 1 nothing_read (text_lines text) ≡ Err (misfit.Number, line)
IsOutcome text (Err Memory) = Unit {0}
