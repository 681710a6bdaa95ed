-- The cores that are made along a ledger.
use Rattle.std.specs.Prelude.{List, [], ◌∷◌, ◌++◌, length, drop}
use Rattle.std.specs.declared.result.Result.{Result}
use Rattle.std.specs.declared.result.Result.TheVariants.{Ok, Err}
use Rattle.core_forms.specs.declared.form.Core.{Core}
use Rattle.ledger_text.specs.declared.line.Line.{Line}
use Rattle.step_kernel.specs.declared.fault.StepFault.{StepFault}
use Rattle.step_kernel.specs.Kernel.{Kernel, pending}
use Rattle.step_kernel.specs.Steps.{step}

-- the cores of a state that stand behind those of an earlier one: their ids are new
abbrev pub made_between : Kernel → Kernel → List Core
made_between k new = pending (drop (length k.cores) new.cores)

-- those that a step makes
abbrev pub made_to : Kernel → Result Kernel StepFault → List Core
made_to k (Ok new) = made_between k new
made_to k (Err fault) = []

-- those that the lines of a ledger make, one line after another
abbrev pub made_along : Result Kernel StepFault → List Line → List Core
made_along r [] = []
made_along (Err fault) (line ∷ lines) = []
made_along (Ok k) (line ∷ lines) = made_to k (step k line) ++ made_along (step k line) lines

-- the cores of a compilation, each as it was made: those that are pending at its start, and those that its lines make
abbrev pub all_made : Kernel → List Line → List Core
all_made start lines = pending start.cores ++ made_along (Ok start) lines
