use Rattle.std.proofs.Common.{arith}
use Rattle.core_cost.proofs.CountLaws.{counts_at_zero}
use Rattle.core_cost.proofs.counts.+counts_around.Goals as goal

pub returns-then-n-eq0-clause-low : goal.returns-then-n-eq0-clause-low
returns-then-n-eq0-clause-low t c = let e = counts_at_zero c.args.n c.if-n-eq0.true in omega arith

pub returns-then-n-eq0-clause-high : goal.returns-then-n-eq0-clause-high
returns-then-n-eq0-clause-high t c = let e = counts_at_zero c.args.n c.if-n-eq0.true in omega arith
