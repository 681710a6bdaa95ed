-- All steps are negated where the loop has come to the first one.
use Rattle.std.proofs.Common.{◌≡◌, ap, ◌∙◌, map, drop, arith}
use Rattle.std.specs.Prelude.{reverse}
use Rattle.order_ints.specs.OrderChange.{negated_step}
use Rattle.order_ints.proofs.order_int.change.negated_steps.Goals as goal

pub returns : goal.returns
returns c =
    let none_left : c.loop-i.i ≡ 0 = omega arith in
    c.from_vec.ensures ∙ c.loop-i.invariant ∙ ap (λ i. map negated_step (reverse (drop i c.args.steps.now))) none_left
