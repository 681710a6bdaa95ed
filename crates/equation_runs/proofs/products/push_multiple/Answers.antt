use Rattle.std.proofs.Common.{rules}
use Rattle.equation_runs.proofs.LinkSteps.{multiple-parts}
use Rattle.equation_runs.proofs.products.push_multiple.Goals as goal

pub returns : goal.returns
returns c = multiple-parts c.args.k.now _ c.args.b.now c.args.c.now _ _ _ c.in_ok-push_linked_back.ensures c.in_ok-push_linked.ensures (search rules)
