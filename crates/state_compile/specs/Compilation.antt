-- The compilation of a state: its lines, each in its turn, and its end.
use Rattle.std.specs.Prelude.{◌≡◌, ◌⊎◌, true, List, [], ◌∷◌, ◌++◌, None, Some, Ok}
use Rattle.core_forms.specs.declared.equation.Equation.{Equation}
use Rattle.core_forms.specs.declared.form.Core.{Core}
use Rattle.ledger_text.specs.declared.line.Line.{Line}
use Rattle.ledger_text.specs.declared.line.Line.TheVariants.{Equate, Split, Encode}
use Rattle.step_kernel.specs.Kernel.{Kernel, trimmed_at, pending}
use Rattle.step_kernel.specs.Least.{least_of, least_compound_of}
use Rattle.step_kernel.specs.Steps.{step}
use Rattle.fixpoint_queue.specs.Quiet.{IsClosed}

-- When a line is due: an equation where it is told at its core, as the store has it; a split where nothing is told at
-- any pending core, and its core is the least compound one; an encoding where nothing is told at any, none is compound,
-- and its core is the least one.
abbrev pub IsDue : (Core → Equation → Type 0) → Kernel → Line → Type 0
IsDue told k (Equate id e) = (core : Core) × (trimmed_at k id ≡ Some core) × told core e
IsDue told k (Split id) = IsClosed told k × (least_compound_of k ≡ Some id)
IsDue told k (Encode id) = IsClosed told k × (least_compound_of k ≡ None) × (least_of k ≡ Some id)

-- the lines lead by steps from one state to another, and each is due where its step begins
abbrev pub LeadsInOrder : (Core → Equation → Type 0) → Kernel → List Line → Kernel → Type 0
LeadsInOrder told k [] new = k ≡ new
LeadsInOrder told k (line ∷ lines) new = (mid : Kernel) × (step k line ≡ Ok mid) × IsDue told k line
    × LeadsInOrder told mid lines new

-- a contradiction was found, or no core is pending
abbrev pub IsAtEnd : Kernel → Type 0
IsAtEnd k = (k.bottom ≡ true) ⊎ (pending k.cores ≡ [])

-- a ledger is that of a whole compilation, from a state to its end
pub record IsCompilation (told : Core → Equation → Type 0) (start : Kernel) (ledger : List Line) (last : Kernel)
    : Type 0 where
  pub lines : LeadsInOrder told start ledger last
  pub end : IsAtEnd last

-- a ledger is another one and then lines that lead in order from one state to another
pub record AddsInOrder (told : Core → Equation →
    Type 0) (before : List Line) (old : Kernel) (behind : List Line) (new : Kernel) : Type 0 where
  pub added : List Line
  pub is : behind ≡ before ++ added
  pub leads : LeadsInOrder told old added new
