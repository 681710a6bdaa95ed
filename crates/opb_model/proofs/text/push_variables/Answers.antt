use Rattle.opb_model.proofs.Lists.{one_written}
use Rattle.opb_model.proofs.text.push_variables.Goals as goal

pub loop-before-preserved : goal.loop-before-preserved
loop-before-preserved c =
    one_written c.loop-before.out.items c.push_variable.new.out.items _ c.loop-before.before c.args.vars
    c.loop-before-test.true c.in_ok-push_variable.ensures c.loop-before.invariant
