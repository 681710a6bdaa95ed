use Rattle.std.proofs.Common.{◌<ℤ◌, ◌∙◌, to_z, of_z, arith}
use mir.Syntax.{w128}
use Rattle.std.proofs.lemmas.Int.{ints}
use Rattle.std.proofs.lemmas.Grind.{common_steps}
use Rattle.order_ints.specs.declared.atom.Atom.TheVariants.{False}
use Rattle.order_ints.proofs.Reaching.{at_tells, reaches_behind}
use Rattle.order_ints.proofs.order_int.OrdInt.at.Goals as goal

pub returns-then-v-value-clause-meaning : goal.returns-then-v-value-clause-meaning
returns-then-v-value-clause-meaning c =
    at_tells c.args.self.now c.args.v c.in-Some.atom (grind (arith, common_steps, ints))

pub returns-clause-meaning : goal.returns-clause-meaning
returns-clause-meaning c = at_tells c.args.self.now c.args.v False (grind (arith, common_steps, ints))

pub loop-value-preserved : goal.loop-value-preserved
loop-value-preserved c =
    let v = to_z w128 (of_z w128 c.args.v) in
    let below : c.in-Some.value <ℤ v = omega (arith, ints, c.if-v-value.false) in
    reaches_behind v (c.in-Some.value, c.in-Some.atom) c.next.new.self c.loop-value.value-iterator c.in-Some.ensures.steps below ∙ c.loop-value.invariant
