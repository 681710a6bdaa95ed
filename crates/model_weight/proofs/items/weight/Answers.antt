use Rattle.std.proofs.Common.{◌≡◌, ℕ, ◌<◌, ◌^◌, ◌∙◌, arith}
use Rattle.std.proofs.lemmas.Result.{IfOk-weaker}
use Rattle.core_cost.specs.Saturated.{saturated}
use Rattle.model_weight.specs.Weight.{weight_of}
use Rattle.model_weight.proofs.WeightBounds.{weight-fits}
use Rattle.model_weight.proofs.items.weight.Goals as goal

small : (n : ℕ) → n < 2 ^ 128 → saturated n ≡ n
small n h = omega arith

pub returns-clause-exact : goal.returns-clause-exact
returns-clause-exact c few =
    let fits = weight-fits c.args.model.now c.requires few in
    IfOk-weaker c.items_weight.result (λ w. w ≡ saturated (weight_of c.args.model.now)) (λ w. w ≡ weight_of c.args.model.now) (λ w e. e ∙ small (weight_of c.args.model.now) fits) c.items_weight.ensures
