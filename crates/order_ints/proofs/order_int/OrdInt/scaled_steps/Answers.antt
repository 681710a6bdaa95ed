use Rattle.std.proofs.Common.{ap, ◌∙◌, map, arith, pos, ◌<ℤ◌}
use Rattle.std.specs.Prelude.{reverse, unsigned_abs}
use Rattle.std.proofs.lemmas.Int.{ints, to_z-of_z}
use mir.Syntax.{w128}
use Rattle.order_ints.specs.OrderChange.{negated_step}
use Rattle.order_ints.proofs.Multiples.{products-fit, scaled_steps-down, scaled_steps-up}
use Rattle.order_ints.proofs.order_int.OrdInt.scaled_steps.Goals as goal

pub multiplied-requires : goal.multiplied-requires
multiplied-requires c =
    let same = to_z-of_z w128 c.args.by c.ranges.by in
    let below : c.args.by <ℤ pos 0 = omega (arith, ints) in
    products-fit c.args.self.now c.args.by _ _ _ c.requires (scaled_steps-down c.args.self.now c.args.by below)
    (c.unsigned_abs.ensures.value ∙ ap unsigned_abs same)
    (c.in_ok-steps.ensures ∙ ap (λ steps. map negated_step (reverse steps)) c.as_slice.ensures)

pub multiplied-requires-2 : goal.multiplied-requires-2
multiplied-requires-2 c =
    let same = to_z-of_z w128 c.args.by c.ranges.by in
    let above : pos 0 <ℤ c.args.by = omega (arith, ints) in
    products-fit c.args.self.now c.args.by _ _ _ c.requires (scaled_steps-up c.args.self.now c.args.by above)
    (c.unsigned_abs-2.ensures.value ∙ ap unsigned_abs same) c.in_ok-steps-2.ensures
