-- How many new labels a variable gets.
use Rattle.std.specs.Prelude.{ℕ, ◌+◌, List, [], ◌∷◌, if◌then◌else◌}
use Rattle.std.specs.declared.result.Result.{Result}
use Rattle.std.specs.declared.result.Result.TheVariants.{Ok, Err}
use Rattle.ledger_text.specs.declared.line.Line.{Line}
use Rattle.step_kernel.specs.declared.fault.StepFault.{StepFault}
use Rattle.step_kernel.specs.Kernel.{Kernel}
use Rattle.step_kernel.specs.Steps.{step}
use Rattle.fixpoint_queue.specs.Pairs.{is_relabelled}

-- one where a step leads to a state in which the variable has another label, and else none
abbrev pub new_label_to : ℕ → Kernel → Result Kernel StepFault → ℕ
new_label_to v k (Ok new) = if is_relabelled k.view new.view v then 1 else 0
new_label_to v k (Err fault) = 0

-- by the lines of a ledger, one line after another
abbrev pub new_labels : ℕ → Result Kernel StepFault → List Line → ℕ
new_labels v r [] = 0
new_labels v (Err fault) (line ∷ lines) = 0
new_labels v (Ok k) (line ∷ lines) = new_label_to v k (step k line) + new_labels v (step k line) lines
