use Rattle.opb_model.proofs.Lists.{one_declared}
use Rattle.opb_model.proofs.declarations.variables.Goals as goal

pub loop-before-preserved : goal.loop-before-preserved
loop-before-preserved c =
    one_declared c.loop-before.decls.items c.push.new.self.items _ c.loop-before.before c.args.vars c.in_ok-decl.decl
    c.loop-before-test.true c.in_ok-push.ensures.items c.in_ok-decl.ensures c.loop-before.invariant
