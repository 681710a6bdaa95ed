-- How many pairs of a pending core and one of its variables get a new label.
use Rattle.std.specs.Prelude.{◌≡◌, ◌==◌, ℕ, zero, suc, ◌+◌, ◌*◌, ◌≤◌, Bool, not, ◌&&◌}
use Rattle.std.specs.Prelude.{List, [], ◌∷◌, ◌++◌, length, if◌then◌else◌}
use Rattle.std.specs.List.{list_any}
use Rattle.std.specs.declared.result.Result.{Result}
use Rattle.std.specs.declared.result.Result.TheVariants.{Ok, Err}
use Rattle.order_ints.specs.declared.atom.Atom.{Atom}
use Rattle.order_ints.specs.View.{label_of}
use Rattle.order_ints.specs.Same.{same_atom}
use Rattle.core_forms.specs.declared.form.Core.{Core}
use Rattle.core_forms.specs.Variables.{core_vars}
use Rattle.ledger_text.specs.declared.line.Line.{Line}
use Rattle.step_kernel.specs.declared.fault.StepFault.{StepFault}
use Rattle.step_kernel.specs.Kernel.{Kernel, pending}
use Rattle.step_kernel.specs.Steps.{step}

-- whether a variable has another label in the second view
abbrev pub is_relabelled : List Atom → List Atom → ℕ → Bool
is_relabelled old new v = not (same_atom (label_of old v) (label_of new v))

-- whether a core, as it was made, has a variable
abbrev pub has_var : Core → ℕ → Bool
has_var core v = list_any (λ w. w == v) (core_vars core)

-- how many of the variables 1 to n stand in a core and have another label in the second view
abbrev pub relabelled_in : List Atom → List Atom → Core → ℕ → ℕ
relabelled_in old new core zero = 0
relabelled_in old new core (suc n) = (if has_var core (suc n) && is_relabelled old new (suc n) then 1 else 0)
    + relabelled_in old new core n

-- of all these cores
abbrev pub relabelled_pairs : List Atom → List Atom → List Core → ℕ
relabelled_pairs old new [] = 0
relabelled_pairs old new (core ∷ cores) = relabelled_in old new core (length old) + relabelled_pairs old new cores

-- pairs of a pending core and one of its variables that has another label in the second state
abbrev pub pairs_between : Kernel → Kernel → ℕ
pairs_between k new = relabelled_pairs k.view new.view (pending k.cores)

-- where a step leads to a state
abbrev pub pairs_to : Kernel → Result Kernel StepFault → ℕ
pairs_to k (Ok new) = pairs_between k new
pairs_to k (Err fault) = 0

-- the pairs that get a new label by the lines of a ledger, one line after another
abbrev pub pairs_along : Result Kernel StepFault → List Line → ℕ
pairs_along r [] = 0
pairs_along (Err fault) (line ∷ lines) = 0
pairs_along (Ok k) (line ∷ lines) = pairs_to k (step k line) + pairs_along (step k line) lines

-- From a state and a ledger on, with so many queries to make, a counter has risen by at most three for each query
-- that was asked; there are so many left; and those that came are no more than the pairs that got a new label.
abbrev pub IsCounted : Kernel → List Line → List Line → ℕ → ℕ → ℕ → ℕ → Type 0
IsCounted k before behind queued counter now left =
    (lines : List Line) → behind ≡ before ++ lines
    → now + 3 * left ≤ counter + 3 * (queued + pairs_along (Ok k) lines)
