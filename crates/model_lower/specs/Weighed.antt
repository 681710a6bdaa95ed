-- The weight of a model bounds what the model is lowered to.
use Rattle.std.specs.Prelude.{ℕ, ◌+◌, ◌≤◌, length}
use Rattle.core_forms.specs.Cores.{costs_of}
use Rattle.model_meaning.specs.declared.model.Model.{Model}
use Rattle.model_meaning.specs.Limits.{InLimits}
use Rattle.model_meaning.specs.WellTyped.{WellTyped}
use Rattle.model_weight.specs.Weight.{weight_of}
use Rattle.model_lower.specs.declared.state.Lowered.{Lowered}
use Rattle.model_lower.specs.Lowering.{lowered_of}

-- the greatest weight of a model that is lowered
abbrev pub most_weight : ℕ
most_weight = 67108864

-- how large a lowered model is: its variables, and the costs of its cores
abbrev pub size_of_lowered : Lowered → ℕ
size_of_lowered l = l.vars + costs_of l.cores

-- a model is lowered to as many variables and costs as it weighs at most, and to as many cores as it has items and
-- weighs at most
pub record ModelWeightLaw (model : Model) : Type 0 where
  pub size : size_of_lowered (lowered_of model) ≤ weight_of model
  pub cores : length (lowered_of model).cores ≤ length model.decls + length model.stmts + weight_of model

abbrev pub ModelWeightLaws : Type 0
ModelWeightLaws = (model : Model) → WellTyped model → InLimits model → ModelWeightLaw model
