use Rattle.conflict_check.proofs.Heading.{verdict-refused, verdict-to}
use Rattle.conflict_check.proofs.head.Head.verdict_line.Goals as goal

pub returns-in-None : goal.returns-in-None
returns-in-None c =
    let h = c.args.self.now in
    verdict-refused c.args.model.now h.verdict h.conflict.items h.last h.stage c.args.line.now c.requires.stage c.in-None.ensures

pub returns-in-Some : goal.returns-in-Some
returns-in-Some c =
    let h = c.args.self.now in
    (verdict-to c.args.model.now h.verdict h.conflict.items h.last h.stage c.args.line.now c.requires.stage c.in-Some.verdict c.stage_behind-self.result c.in-Some.ensures.0 c.in-Some.ensures.1 c.stage_behind-self.ensures, c.requires.walked)
