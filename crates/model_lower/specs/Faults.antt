-- Which models are not lowered.
use Rattle.std.specs.Prelude.{◌≡◌, ◌<◌, ◌^◌}
use Rattle.model_meaning.specs.declared.model.Model.{Model}
use Rattle.model_weight.specs.Weight.{weight_of}
use Rattle.model_lower.specs.declared.fault.LowerFault.{LowerFault}
use Rattle.model_lower.specs.declared.fault.LowerFault.TheVariants.{TooHeavy, Memory}
use Rattle.model_lower.specs.Weighed.{most_weight}

-- the model weighs too much, and its weight is told where it has 128 bits, as that of each text has; or memory was
-- wanting
abbrev pub IsFaultOf : LowerFault → Model → Type 0
IsFaultOf (TooHeavy w) m = (most_weight < weight_of m) × (weight_of m < 2 ^ 128 → w ≡ weight_of m)
IsFaultOf Memory m = Unit {0}
