use Rattle.std.proofs.Common.{ℕ, ◌*◌, ◌<◌, length, get_or, ap, ◌∙◌, arith}
use Rattle.std.proofs.lemmas.List.{get_or_default}
use Rattle.std.proofs.lemmas.List.Edits.{map_over_more}
use Rattle.order_ints.specs.declared.atom.Atom.{Atom}
use Rattle.order_ints.specs.declared.atom.Atom.TheVariants.{True}
use Rattle.order_ints.proofs.Multiples.{multiplied-fits}
use Rattle.order_ints.proofs.order_int.change.multiplied.Goals as goal

pub overflow_mul-step : goal.overflow_mul-step
overflow_mul-step c =
    let same = ap length (c.deref_mut-step-items.ensures.value ∙ c.into_vec-steps.ensures) in
    let within : c.loop-step.step-index < length c.args.steps = omega (arith, same) in
    omega (arith, multiplied-fits c.args.factor c.loop-step.step-index c.args.steps c.loop-step.step-items (True, 0) within c.loop-step.invariant)

pub loop-step-preserved : goal.loop-step-preserved
loop-step-preserved c =
    let same = ap length (c.deref_mut-step-items.ensures.value ∙ c.into_vec-steps.ensures) in
    let within : c.loop-step.step-index < length c.args.steps = omega (arith, same) in
    let here = get_or c.loop-step.step-items c.loop-step.step-index (True, 0) in
    map_over_more (λ (s : Atom × ℕ). (s.0, c.args.factor * s.1)) c.args.steps c.loop-step.step-items c.loop-step.step-index here within c.loop-step.invariant
    (get_or_default c.loop-step.step-items c.loop-step.step-index (True, 0) here (omega arith))
