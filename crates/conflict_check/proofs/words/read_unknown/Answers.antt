use Rattle.std.proofs.Common.{codes}
use Rattle.conflict_check.proofs.Verdicts.{spent}
use Rattle.conflict_check.proofs.words.read_unknown.Goals as goal

pub returns-in-Some : goal.returns-in-Some
returns-in-Some c = spent c.args.line.now (codes "UNKNOWN ") c.in-Some.rest.now c.read_spent.result c.in-Some.ensures c.read_spent.ensures.read c.read_spent.ensures.complete
