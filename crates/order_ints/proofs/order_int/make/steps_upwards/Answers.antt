-- The next value is above the last one and small, and its step goes behind those so far.
use Rattle.std.proofs.Common.{pos, get_or, FitsSigned, rules}
use mir.Syntax.{w128}
use Rattle.std.proofs.lemmas.Int.{to_z-of_z}
use Rattle.order_ints.proofs.Fresh.{atom_is}
use Rattle.order_ints.proofs.Upwards.{ascends-next, small-next, vars-next, step_is, steps_between-turn}
use Rattle.order_ints.proofs.order_int.make.steps_upwards.Goals as goal

pub gap-requires-clause-ascending : goal.gap-requires-clause-ascending
gap-requires-clause-ascending c =
    let next = get_or c.args.values.now c.loop-next.next-index (pos 0) in
    let fits : FitsSigned w128 next = search rules in
    (ascends-next _ c.args.values.now c.loop-next.next-index (pos 0) _ c.loop-next-test.true (to_z-of_z w128 next fits) c.loop-next.invariant.ascending).0

pub gap-requires-clause-from : goal.gap-requires-clause-from
gap-requires-clause-from c = c.loop-next.invariant.from

pub gap-requires-clause-to : goal.gap-requires-clause-to
gap-requires-clause-to c =
    let next = get_or c.args.values.now c.loop-next.next-index (pos 0) in
    let fits : FitsSigned w128 next = search rules in
    (small-next c.args.values.now c.loop-next.next-index (pos 0) _ c.loop-next-test.true (to_z-of_z w128 next fits) c.loop-next.invariant.bounded).0

pub loop-next-preserved : goal.loop-next-preserved
loop-next-preserved c =
    let values = c.args.values.now in
    let i = c.loop-next.next-index in
    let next = get_or values i (pos 0) in
    let fits : FitsSigned w128 next = search rules in
    let same = to_z-of_z w128 next fits in
    let ascending = ascends-next _ values i (pos 0) _ c.loop-next-test.true same c.loop-next.invariant.ascending in
    let small = small-next values i (pos 0) _ c.loop-next-test.true same c.loop-next.invariant.bounded in
    record {
      steps = steps_between-turn _ _ _ _ _ values i (pos 0) _ c.loop-next.var c.loop-next-test.true same c.in_ok-push.ensures.items (step_is _ _ _ _ (atom_is c.of.result _ c.of.ensures.var c.of.ensures.sign) c.gap.ensures) c.loop-next.invariant.steps;
      ascending = ascending.1;
      from = small.0;
      bounded = small.1;
      variables = vars-next values i (pos 0) _ c.loop-next.var c.loop-next-test.true same c.loop-next.invariant.variables;
    }
