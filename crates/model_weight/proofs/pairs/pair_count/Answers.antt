use Rattle.std.proofs.Common.{sym}
use Rattle.model_weight.proofs.PairSums.{count-is}
use Rattle.model_weight.proofs.pairs.pair_count.Goals as goal

pub returns : goal.returns
returns c ns e = rw (c.saturating_sub.ensures, ← e) (sym (count-is ns))
