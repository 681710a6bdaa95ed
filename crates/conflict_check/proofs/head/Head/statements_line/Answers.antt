use Rattle.std.proofs.Common.{sym, ◌∙◌}
use Rattle.std.proofs.lemmas.Bool.{true≢false}
use Rattle.conflict_check.proofs.Heading.{statement-refused}
use Rattle.conflict_check.proofs.head.Head.statements_line.Goals as goal

pub returns-in-None : goal.returns-in-None
returns-in-None c =
    let h = c.args.self.now in
    statement-refused c.args.model.now h.verdict h.conflict.items h.last h.stage c.args.line.now c.requires.stage (λ e. true≢false (sym (c.is.ensures.same.1 e) ∙ c.if-is.false)) c.in-None.ensures
