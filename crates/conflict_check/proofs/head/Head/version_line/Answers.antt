use Rattle.std.proofs.Common.{sym, ◌∙◌}
use Rattle.std.proofs.lemmas.Bool.{true≢false}
use Rattle.conflict_check.proofs.Heading.{version-refused, version-taken}
use Rattle.conflict_check.proofs.head.Head.version_line.Goals as goal

pub returns-then-not-is : goal.returns-then-not-is
returns-then-not-is c =
    let h = c.args.self.now in
    version-refused c.args.model.now h.verdict h.conflict.items h.last h.stage c.args.line.now c.requires.stage (λ e. true≢false (sym (c.is.ensures.same.1 e) ∙ c.if-not-is.true))

pub returns : goal.returns
returns c =
    let h = c.args.self.now in
    (version-taken c.args.model.now h.verdict h.conflict.items h.last h.stage c.args.line.now c.requires.stage (c.is.ensures.same.0 c.if-not-is.false), c.requires.walked)
