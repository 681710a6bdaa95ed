use Rattle.std.proofs.Common.{sym, subst}
use Rattle.core_extract.specs.Extracted.{IsReply}
use Rattle.core_extract.proofs.Replies.{is-reply}
use Rattle.core_extract.proofs.reply.ask.Goals as goal

pub returns-in-Ok : goal.returns-in-Ok
returns-in-Ok g c =
    subst (IsReply g.F.Oracle.told c.args.model.now c.args.asker.now.options) (sym c.reply_of-reply.ensures)
    (is-reply g.F.Oracle.told c.args.model.now c.args.asker.now.options c.in-Ok.document _ _ c.in-Ok.ensures c.requires.goal)
