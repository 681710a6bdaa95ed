-- What a model is compiled to, and which assignments that gives.
use Rattle.std.specs.Prelude.{◌≡◌, ◌↔◌, ℕ, ◌+◌, ◌*◌, ◌≤◌, ◌<◌, ◌^◌, true, List}
use Rattle.std.specs.Prelude.{length, ℤ}
use Rattle.order_ints.specs.Truth.{Valuation}
use Rattle.order_ints.specs.Satisfies.{Satisfies}
use Rattle.order_ints.specs.Numbers.{numbers_of}
use Rattle.core_forms.specs.declared.equation.Equation.{Equation}
use Rattle.core_forms.specs.declared.form.Core.{Core}
use Rattle.core_rules.specs.Instances.{is_instance_at}
use Rattle.model_meaning.specs.declared.model.Model.{Model}
use Rattle.model_meaning.specs.WellTyped.{WellTyped}
use Rattle.model_meaning.specs.Limits.{InLimits}
use Rattle.model_meaning.specs.Solutions.{IsSolution}
use Rattle.model_weight.specs.Weight.{weight_of}
use Rattle.model_lower.specs.declared.state.Lowered.{Lowered}
use Rattle.model_lower.specs.Lowering.{lowered_of}
use Rattle.model_lower.specs.Weighed.{most_weight}
use Rattle.step_kernel.specs.Kernel.{Kernel, started}
use Rattle.step_kernel.specs.CnfOf.{cnf_of}
use Rattle.asking_bound.specs.Made.{all_made}
use Rattle.asking_bound.specs.Questions.{occurrences_of, binary_digits}
use Rattle.state_compile.specs.Compilation.{IsCompilation}
use Rattle.bee_compile.specs.declared.compiled.Compiled.{Compiled}
use Rattle.name_map.specs.Trimmed.{trimmed_values}
use Rattle.bee_compile.specs.Fits.{CompiledFits}

-- each instance of each rule is told
abbrev pub IsInstance : Core → Equation → Type 0
IsInstance core e = is_instance_at core e ≡ true

-- the state with which the compilation of a lowered model begins
abbrev pub start_of : Lowered → Kernel
start_of l = started l.vars l.cores

-- The ledger leads through a whole compilation from the lowered model to a last state. The cores that were made are
-- those of this state, which keeps the places of all ids; the clauses are its CNF; and each name stands for what it has
-- in the lowered model, as the last store has it.
pub record IsCompiled (told : Core → Equation → Type 0) (model : Model) (c : Compiled) : Type 0 where
  pub last : Kernel
  pub compilation : IsCompilation told (start_of (lowered_of model)) c.ledger last
  pub cores : c.cores ≡ length last.cores
  pub cnf : c.cnf ≡ cnf_of last
  pub decls : c.decls ≡ model.decls
  pub map : c.map.entries ≡ trimmed_values last.view (lowered_of model).map.entries

-- The most queries that a compilation may make: one for each core that is made, and one for each new label that one of
-- its variables can get, which are as many at most as the number of variables has binary digits.
abbrev pub questions_of : Model → Compiled → ℕ
questions_of model c =
    let made = all_made (start_of (lowered_of model)) c.ledger in
    length made + occurrences_of made * binary_digits c.cnf.vars

-- an assignment is what the declared names have under a valuation that satisfies the clauses
abbrev pub IsGiven : Compiled → List ℤ → Type 0
IsGiven c a = (σ : Valuation) × Satisfies σ c.cnf × (a ≡ numbers_of σ c.map.entries)

-- what a model is compiled to gives its solutions, and is within the limits
pub record IsCompiledWell (model : Model) (c : Compiled) : Type 0 where
  pub solutions : (a : List ℤ) → IsSolution model a ↔ IsGiven c a
  pub fits : CompiledFits c

-- so is what a model is compiled to that is well typed, in the limits and not too heavy
abbrev pub CompilationLaw : (Core → Equation → Type 0) → Type 0
CompilationLaw told = (model : Model) (c : Compiled) → WellTyped model → InLimits model
    → weight_of model ≤ most_weight → c.cores < 2 ^ 64 → IsCompiled told model c → IsCompiledWell model c
