-- What no part of a model weighs more than.
use Rattle.std.specs.Prelude.{◌≡◌, ℕ, ◌+◌, ◌<◌, ◌≤◌, List, [], ◌∷◌, Option, Some, None}
use Rattle.model_meaning.specs.declared.model.Model.{Model}
use Rattle.model_items.specs.Items.{ModelItem, Declaration, Statement, Definition, items_of_model}
use Rattle.model_weight.specs.Weight.{weight_of}
use Rattle.model_lower.specs.Weighed.{most_weight}

-- how many items are a `bool2int` that declares its integer
abbrev pub definitions_at : ModelItem → ℕ
definitions_at (Declaration d) = 0
definitions_at (Statement s) = 0
definitions_at (Definition d s) = 1

abbrev pub definitions_in : List ModelItem → ℕ
definitions_in [] = 0
definitions_in (i ∷ items) = definitions_at i + definitions_in items

-- each of them may leave an integer with a variable of its own
abbrev pub core_weight : Model → ℕ
core_weight model = weight_of model + definitions_in (items_of_model model)

-- no part of a model is too heavy, or the greatest weight of one is told
abbrev pub IsTooHeavy : Model → Option ℕ → Type 0
IsTooHeavy model None = core_weight model ≤ most_weight
IsTooHeavy model (Some w) = (most_weight < core_weight model) × (w ≡ core_weight model)
