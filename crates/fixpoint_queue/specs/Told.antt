-- What a core was found to tell.
use Rattle.std.specs.Prelude.{◌≡◌, ℕ, Bool, true}
use Rattle.core_forms.specs.declared.equation.Equation.{Equation}
use Rattle.core_forms.specs.declared.form.Core.{Core}
use Rattle.core_forms.specs.Place.{CoreBelow}
use Rattle.core_parts.specs.Parts.{is_compound_of}
use Rattle.core_rules.specs.Instances.{is_instance_at}
use Rattle.core_rules.specs.declared.found.FoundRun.{FoundRun}
use Rattle.equation_runs.specs.Turns.{AreToldInTurn, EquationsBelow}
use Rattle.fixpoint_queue.specs.declared.asking.Answer.{Answer}
use Rattle.fixpoint_queue.specs.declared.asking.Answer.TheVariants.{Told, Silent}

-- an equation is told of a core, and is an instance of a rule there
abbrev pub IsToldInstance : (Core → Equation → Type 0) → Core → Equation → Type 0
IsToldInstance told core e = told core e × (is_instance_at core e ≡ true)

-- the equation that was found is told of the core, and those of its run one after another, over the core's variables
pub record IsTold (told : Core → Equation → Type 0) (core : Core) (found : FoundRun) : Type 0 where
  pub equation : IsToldInstance told core found.equation
  pub run : AreToldInTurn (IsToldInstance told) core found.run.items
  pub below : (n : ℕ) → CoreBelow n core → EquationsBelow n found.run.items

-- nothing is told of the core, and the flag says whether it is compound
pub record IsSilent (told : Core → Equation → Type 0) (core : Core) (flag : Bool) : Type 0 where
  pub none : (e : Equation) → told core e → ⊥
  pub compound : flag ≡ is_compound_of core

-- an answer is right for a core
abbrev pub IsAnswer : (Core → Equation → Type 0) → Core → Answer → Type 0
IsAnswer told core (Told found) = IsTold told core found
IsAnswer told core (Silent flag) = IsSilent told core flag
