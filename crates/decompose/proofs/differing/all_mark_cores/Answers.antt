use Rattle.std.proofs.Common.{refl, arith}
use Rattle.decompose.proofs.DifferingSteps.{sound-more, member-counted, member-more, members-done}
use Rattle.decompose.proofs.differing.all_mark_cores.Goals as goal

pub overflow_cast-var : goal.overflow_cast-var
overflow_cast-var c =
    let more = member-counted c.in-Some.a.now c.loop-condition.rest.now c.in-Some.others.now c.loop-condition.var c.len.result _ c.in-Some.ensures.cases.0 c.len.ensures c.loop-condition.invariant.counted in
    omega (arith, more, c.requires.room)

pub overflow_add-var : goal.overflow_add-var
overflow_add-var c =
    let more = member-counted c.in-Some.a.now c.loop-condition.rest.now c.in-Some.others.now c.loop-condition.var c.len.result _ c.in-Some.ensures.cases.0 c.len.ensures c.loop-condition.invariant.counted in
    omega (arith, more, c.requires.room)

pub overflow_add-var-in-loop-condition : goal.overflow_add-var-in-loop-condition
overflow_add-var-in-loop-condition c =
    let more = member-counted c.in-Some.a.now c.loop-condition.rest.now c.in-Some.others.now c.loop-condition.var c.len.result _ c.in-Some.ensures.cases.0 c.len.ensures c.loop-condition.invariant.counted in
    omega (arith, more, c.requires.room)

pub loop-condition-preserved : goal.loop-condition-preserved
loop-condition-preserved c =
    let before = c.loop-condition.invariant in
    let next = c.in-Some.ensures.cases.0 in
    record {
      sound = (sound-more c.in-Some.a.now c.loop-condition.rest.now c.in-Some.others.now next before.sound).1;
      counted = member-counted c.in-Some.a.now c.loop-condition.rest.now c.in-Some.others.now c.loop-condition.var c.len.result _ next c.len.ensures before.counted;
      written = member-more c.in-Some.a.now c.loop-condition.rest.now c.in-Some.others.now _ c.args.conditions.now c.loop-condition.condition-index c.loop-condition.var c.len.result _ _ _ _
          c.loop-condition-test.true next c.len.ensures refl c.in_ok-put_mark_cores.ensures before.written;
    }

pub returns : goal.returns
returns c =
    members-done c.loop-condition.var c.loop-condition.rest.now c.args.conditions.now c.loop-condition.condition-index c.loop-condition.cores.items _ c.loop-condition-test.false c.loop-condition.invariant.written
