use Rattle.arith_rules.proofs.RangeBits.{rest_bits}
use Rattle.arith_rules.proofs.ranges.Range.share.Goals as goal

pub returns-clause-shape : goal.returns-clause-shape
returns-clause-shape c = λ i. record {
  low = rest_bits c.args.k.now c.args.all.now.high c.args.self.now.high c.requires.total c.requires.all.1 c.requires.own.1 i;
  high = rest_bits c.args.k.now c.args.all.now.low c.args.self.now.low c.requires.total c.requires.all.0 c.requires.own.0 i;
}
