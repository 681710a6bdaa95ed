use Rattle.conflict_check.proofs.Verdicts.{numbered}
use Rattle.conflict_check.proofs.words.read_numbered.Goals as goal

pub returns-in-Some : goal.returns-in-Some
returns-in-Some c = numbered c.args.line.now c.args.word.now c.in-Some.rest.now c.read_count.result c.in-Some.ensures c.read_count.ensures.read c.read_count.ensures.complete
