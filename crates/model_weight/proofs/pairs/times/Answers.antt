use Rattle.std.proofs.Common.{arith, ◌-◌, ◌^◌}
use Rattle.model_weight.proofs.PairSums.{times-saturated}
use Rattle.model_weight.proofs.pairs.times.Goals as goal

pub returns : goal.returns
returns c x e = rw (c.saturating_mul.ensures, e) (times-saturated c.args.count x (2 ^ 128 - 1) (omega arith) (omega arith))
