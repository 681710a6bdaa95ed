use Rattle.std.proofs.Common.{codes, arith}
use Rattle.conflict_check.proofs.Verdicts.{same-numbered}
use Rattle.conflict_check.proofs.words.is_without.Goals as goal

pub returns-in-Some : goal.returns-in-Some
returns-in-Some c =
    same-numbered (codes "without ") c.args.line.now c.in-Some.told c.args.number c.in-Some.ensures.0 (omega arith) c.in-Some.ensures.1
