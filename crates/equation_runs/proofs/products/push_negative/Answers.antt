use Rattle.std.proofs.Common.{rules}
use Rattle.equation_runs.proofs.LinkSteps.{negative-parts}
use Rattle.equation_runs.proofs.products.push_negative.Goals as goal

pub returns : goal.returns
returns c = negative-parts c.args.k.now _ c.args.b.now c.args.c.now _ _ _ c.in_ok-push_opposed_above.ensures c.in_ok-push_opposed.ensures (search rules)
