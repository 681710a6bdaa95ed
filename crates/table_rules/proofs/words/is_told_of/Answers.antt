use Rattle.std.proofs.Common.{sym, ◌∙◌}
use Rattle.table_rules.proofs.OneValue.{one-told}
use Rattle.table_rules.proofs.words.is_told_of.Goals as goal

pub returns-then-is_all_one : goal.returns-then-is_all_one
returns-then-is_all_one g c =
    c.is_the_told.ensures
    ∙ sym (one-told (g.T.TruthValues.valuation c.args.sigma) c.args.truth c.args.equal c.args.front.now c.args.back.now (c.is_all_one.ensures c.if-is_all_one.true))
