use Rattle.model_items.proofs.LimitLaws.{items-in_limit}
use Rattle.model_items.proofs.items.Items.of.Goals as goal

pub returns-clause-limits : goal.returns-clause-limits
returns-clause-limits c small h = items-in_limit c.args.decls.now c.args.stmts.now small h
