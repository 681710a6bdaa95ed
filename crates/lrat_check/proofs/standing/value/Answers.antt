use Rattle.std.proofs.Common.{sym, arith}
use Rattle.lrat_check.proofs.Trails.{outside-free}
use Rattle.lrat_check.proofs.standing.value.Goals as goal

pub returns-else-var-vars : goal.returns-else-var-vars
returns-else-var-vars c = sym (outside-free c.args.trail.now c.vars.ensures.trail c.args.var (omega (arith, c.if-var-vars.false, c.vars.ensures.count)))
