use Rattle.std.proofs.Common.{sym, ◌∙◌, arith}
use Rattle.core_extract.proofs.Turns.{passed}
use Rattle.core_extract.proofs.settling.settle_at.Goals as goal

pub returns-then-is_out : goal.returns-then-is_out
returns-then-is_out g c =
    passed g.F.Oracle.told c.args.asker.now.options c.args.place c.args.progress c.requires.progress (omega (arith, c.requires.count, c.requires.named)) (sym c.is_out.ensures ∙ c.if-is_out.true)
