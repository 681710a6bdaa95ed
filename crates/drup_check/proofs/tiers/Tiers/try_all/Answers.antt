use Rattle.std.proofs.Common.{sym, ◌∙◌}
use Rattle.std.proofs.lemmas.Bool.{true≢false}
use Rattle.drup_check.proofs.tiers.Tiers.try_all.Goals as goal

pub returns-then-shows-clause-tried : goal.returns-then-shows-clause-tried
returns-then-shows-clause-tried c = λ cs st. (c.shows.ensures.shown cs st c.if-shows.true, c.shows.ensures.stands cs st)

pub returns-else-shows-clause-tried : goal.returns-else-shows-clause-tried
returns-else-shows-clause-tried c = λ cs st rup. true≢false (sym (c.shows.ensures.all cs st c.requires.all rup) ∙ c.if-shows.false)
