-- The steps of a compilation.
use Rattle.std.specs.Prelude.{◌≡◌, ℕ, ◌+◌, ◌-◌, true, List, [], ◌∷◌, ◌++◌, map, length}
use Rattle.std.specs.Prelude.{slice_set, Option, None, Some, if◌then◌else◌}
use Rattle.std.specs.declared.result.Result.{Result}
use Rattle.std.specs.declared.result.Result.TheVariants.{Ok, Err}
use Rattle.order_ints.specs.Truth.{not_atom}
use Rattle.order_ints.specs.Same.{same_atom}
use Rattle.order_ints.specs.Label.{with_own_labels}
use Rattle.core_forms.specs.declared.equation.Equation.{Equation}
use Rattle.core_forms.specs.declared.form.Core.{Core}
use Rattle.core_forms.specs.Basic.{is_basic_of}
use Rattle.part_base.specs.declared.parts.Parts.{Parts}
use Rattle.direct_encode.specs.Clauses.{clauses_of}
use Rattle.equation_store.specs.Merge.{merged}
use Rattle.ledger_text.specs.declared.line.Line.{Line}
use Rattle.ledger_text.specs.declared.line.Line.TheVariants.{Equate, Split, Encode}
use Rattle.step_kernel.specs.declared.fault.StepFault.{StepFault}
use Rattle.step_kernel.specs.declared.fault.ApplyFault.{ApplyFault}
use Rattle.step_kernel.specs.declared.fault.ApplyFault.TheVariants.{Step, Memory}
use Rattle.step_kernel.specs.declared.fault.StepFault.TheVariants.{AfterBottom, NoSuch, NotInstance, NotCompound}
use Rattle.step_kernel.specs.declared.fault.StepFault.TheVariants.{NotBasic}
use Rattle.step_kernel.specs.Kernel.{Kernel, trimmed_at}
use Rattle.core_rules.specs.Instances.{is_instance_at}
use Rattle.core_parts.specs.Parts.{parts_at, is_compound_of}

-- the id that a line names
abbrev pub id_of : Line → ℕ
id_of (Equate id e) = id
id_of (Split id) = id
id_of (Encode id) = id

-- what stands against a line at a core, as the store has it
abbrev pub fault_at : Line → Core → Option StepFault
fault_at (Equate id e) core = if is_instance_at core e then None else Some NotInstance
fault_at (Split id) core = if is_compound_of core then None else Some NotCompound
fault_at (Encode id) core = if is_basic_of core then None else Some NotBasic

-- the cores where that of an id is no longer pending
abbrev pub without : List (Option Core) → ℕ → List (Option Core)
without cores id = slice_set cores (id - 1) None

-- an equation: where its atoms are opposite, bottom is set; else the two become one in the store
abbrev pub equated : Kernel → Equation → Kernel
equated k e = if same_atom e.a (not_atom e.b) then record k { bottom = true }
    else record k { view = merged k.view e.a e.b }

-- a core is split: the parts take the next ids in order, and each fresh variable is its own label
abbrev pub divided : Kernel → ℕ → Parts → Kernel
divided k id parts = record k {
  view = with_own_labels k.view parts.fresh;
  cores = without k.cores id ++ map Some parts.cores;
}

-- a core is encoded: its clauses come behind those that are there
abbrev pub encoded : Kernel → ℕ → Core → Kernel
encoded k id core = record k { cores = without k.cores id; clauses = k.clauses ++ clauses_of core }

-- the state after a line at a core, as the store has it
abbrev pub after : Kernel → Line → Core → Kernel
after k (Equate id e) core = equated k e
after k (Split id) core = divided k id (parts_at (length k.view + 1) core)
after k (Encode id) core = encoded k id core

abbrev pub unless_fault : Option StepFault → Kernel → Result Kernel StepFault
unless_fault None k = Ok k
unless_fault (Some fault) k = Err fault

abbrev pub step_at : Kernel → Line → Option Core → Result Kernel StepFault
step_at k line None = Err (NoSuch (id_of line))
step_at k line (Some core) = unless_fault (fault_at line core) (after k line core)

-- One step: the state after a line, or what stands against it. At bottom there is no step; else the line's core must be
-- pending; an equation must be an instance at it as the store has it, a core that is split compound, and one that is
-- encoded basic.
abbrev pub step : Kernel → Line → Result Kernel StepFault
step k line = if k.bottom then Err AfterBottom else step_at k line (trimmed_at k (id_of line))

-- what a call answers that refuses a line is what stands against it, or that memory is wanting
abbrev pub IsFaultOf : Result Kernel StepFault → ApplyFault → Type 0
IsFaultOf r (Step fault) = r ≡ Err fault
IsFaultOf r Memory = Unit {0}

-- the state after the lines of a ledger, one after another, or what stands against the first one that is none
abbrev pub replayed : Result Kernel StepFault → List Line → Result Kernel StepFault
replayed r [] = r
replayed (Err fault) (line ∷ lines) = Err fault
replayed (Ok k) (line ∷ lines) = replayed (step k line) lines

abbrev pub replay : Kernel → List Line → Result Kernel StepFault
replay k lines = replayed (Ok k) lines
