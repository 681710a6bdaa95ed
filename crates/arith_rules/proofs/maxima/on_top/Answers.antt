use Rattle.arith_rules.proofs.TopLaws.{top-found}
use Rattle.std.proofs.Common.{sym, ◌∙◌}
use Rattle.arith_rules.proofs.maxima.on_top.Goals as goal

pub returns : goal.returns
returns c =
    c.is_at_most.ensures ∙ top-found c.args.sought c.args.c.now c.args.ints.now c.args.tops.now c.requires.ints c.requires.tops (sym c.is_empty.ensures ∙ c.if-is_empty.false)
