use Rattle.std.proofs.Common.{length}
use Rattle.rule_rows.proofs.splits.+costs.Given as goal

abbrev pub decreases-costs : goal.decreases-costs
decreases-costs l = length l.cores.now
