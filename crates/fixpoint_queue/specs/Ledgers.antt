-- Lines that lead from one state to another, of which each equation is told.
use Rattle.std.specs.Prelude.{◌≡◌, List, [], ◌∷◌, ◌++◌, Some, Ok}
use Rattle.core_forms.specs.declared.equation.Equation.{Equation}
use Rattle.core_forms.specs.declared.form.Core.{Core}
use Rattle.ledger_text.specs.declared.line.Line.{Line}
use Rattle.ledger_text.specs.declared.line.Line.TheVariants.{Equate, Split, Encode}
use Rattle.step_kernel.specs.Kernel.{Kernel, trimmed_at}
use Rattle.step_kernel.specs.Steps.{step}

-- an equation is told at its core, as the store has it; the other lines tell nothing
abbrev pub IsToldAt : (Core → Equation → Type 0) → Kernel → Line → Type 0
IsToldAt told k (Equate id e) = (core : Core) × (trimmed_at k id ≡ Some core) × told core e
IsToldAt told k (Split id) = Unit {0}
IsToldAt told k (Encode id) = Unit {0}

-- the lines lead by steps from one state to another, and the equation of each is told where its step begins
abbrev pub Leads : (Core → Equation → Type 0) → Kernel → List Line → Kernel → Type 0
Leads told k [] new = k ≡ new
Leads told k (line ∷ lines) new = (mid : Kernel) × (step k line ≡ Ok mid) × IsToldAt told k line
    × Leads told mid lines new

-- each line is an equation
abbrev pub AreEquations : List Line → Type 0
AreEquations [] = Unit {0}
AreEquations (Equate id e ∷ lines) = AreEquations lines
AreEquations (Split id ∷ lines) = ⊥
AreEquations (Encode id ∷ lines) = ⊥

-- a ledger is another one and then lines that lead from one state to another
pub record Adds (told : Core → Equation → Type 0) (before : List Line) (old : Kernel) (behind : List Line)
    (new : Kernel) : Type 0 where
  pub added : List Line
  pub is : behind ≡ before ++ added
  pub leads : Leads told old added new

-- and these are equations alone
pub record AddsEquations (told : Core → Equation
    → Type 0) (before : List Line) (old : Kernel) (behind : List Line) (new : Kernel) : Type 0 where
  pub added : List Line
  pub is : behind ≡ before ++ added
  pub leads : Leads told old added new
  pub equations : AreEquations added
