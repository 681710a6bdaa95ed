use Rattle.arith_rules.proofs.RangeBits.{less_bits}
use Rattle.arith_rules.proofs.ranges.Range.less.Goals as goal

pub returns-clause-shape : goal.returns-clause-shape
returns-clause-shape c = λ i. record {
  low = less_bits c.args.self.now.low c.args.other.now.high c.requires.first.0 c.requires.second.1 i;
  high = less_bits c.args.self.now.high c.args.other.now.low c.requires.first.1 c.requires.second.0 i;
}
