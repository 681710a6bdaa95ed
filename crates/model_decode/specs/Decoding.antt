-- What the names of a model have under an answer for the last state of its compilation.
use Rattle.std.specs.Prelude.{◌≡◌, ◌≤◌, List, ℤ}
use Rattle.order_ints.specs.Truth.{Valuation}
use Rattle.order_ints.specs.Satisfies.{Satisfies}
use Rattle.order_ints.specs.Numbers.{numbers_of}
use Rattle.core_forms.specs.declared.equation.Equation.{Equation}
use Rattle.core_forms.specs.declared.form.Core.{Core}
use Rattle.ledger_text.specs.declared.line.Line.{Line}
use Rattle.step_kernel.specs.Kernel.{Kernel}
use Rattle.step_kernel.specs.CnfOf.{cnf_of}
use Rattle.state_compile.specs.Compilation.{IsCompilation}
use Rattle.state_compile.specs.StandsFor.{read_by}
use Rattle.model_meaning.specs.declared.model.Model.{Model}
use Rattle.model_meaning.specs.WellTyped.{WellTyped}
use Rattle.model_meaning.specs.Limits.{InLimits}
use Rattle.model_meaning.specs.Solutions.{IsSolution}
use Rattle.model_weight.specs.Weight.{weight_of}
use Rattle.model_lower.specs.Lowering.{lowered_of}
use Rattle.model_lower.specs.Weighed.{most_weight}
use Rattle.bee_compile.specs.Compiled.{start_of}
use Rattle.model_decode.specs.Short.{AreShort}

-- the numbers that the names of a model have under a valuation that the view of a state reads
abbrev pub numbers_at : Model → Kernel → Valuation → List ℤ
numbers_at model k σ = numbers_of (read_by k.view σ) (lowered_of model).map.entries

-- The names of a model can be decoded. What they have under a valuation that satisfies the CNF of a state is a
-- solution, and each solution is what they have under one.
pub record DecodesSolutions (model : Model) (k : Kernel) : Type 0 where
  pub short : AreShort (lowered_of model).map.entries
  pub solution : (σ : Valuation) → Satisfies σ (cnf_of k) → IsSolution model (numbers_at model k σ)
  pub each : (a : List ℤ) → IsSolution model a → (σ : Valuation) × Satisfies σ (cnf_of k)
      × (a ≡ numbers_at model k σ)

-- so it is at the end of a compilation of a model that is well typed, in the limits and not too heavy
abbrev pub DecodingLaw : (Core → Equation → Type 0) → Type 0
DecodingLaw told = (model : Model) (ledger : List Line) (last : Kernel) → WellTyped model → InLimits model
    → weight_of model ≤ most_weight → IsCompilation told (start_of (lowered_of model)) ledger last
    → DecodesSolutions model last
