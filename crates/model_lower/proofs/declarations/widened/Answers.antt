use Rattle.std.proofs.Common.{◌≡◌, ◌<◌, ◌^◌, ◌++◌, ◌∷◌, [], unsigned_abs, ℤ, pos, to_z, of_z, ap, ◌∙◌}
use Rattle.std.specs.Int.{w128}
use Rattle.core_forms.proofs.Bounds.{small_bits}
use Rattle.model_lower.proofs.DeclarationSteps.{wider}
use Rattle.model_lower.proofs.declarations.widened.Goals as goal

pub loop-value-preserved : goal.loop-value-preserved
loop-value-preserved c =
    let v : ℤ = c.wide_value.result in
    let small : unsigned_abs v < 2 ^ 100 = c.wide_value.ensures.small in
    let bits : to_z w128 (of_z w128 v) ≡ v = small_bits v small in
    let items = c.in_ok-push.ensures.items ∙ ap (λ (z : ℤ). c.loop-value.wide.items ++ z ∷ []) bits in
    wider c.args.values.now c.loop-value.wide.items c.push.new.self.items c.loop-value.value-index (pos 0) v
    c.loop-value-test.true c.loop-value.invariant c.wide_value.ensures.same small items
