use Rattle.arith_rules.proofs.KnownTotals.{low_bits, high_bits, width-fits, high-fits, held-small}
use Rattle.arith_rules.proofs.sums.totals_of.Goals as goal

pub overflow_cast-result : goal.overflow_cast-result
overflow_cast-result c = width-fits c.args.ints.now c.in-Some.known c.in-Some.ensures c.requires.limit

pub overflow_add-result : goal.overflow_add-result
overflow_add-result c = high-fits c.args.ints.now c.in-Some.known c.in-Some.ensures c.requires.limit

pub returns-in-Some-clause-shape : goal.returns-in-Some-clause-shape
returns-in-Some-clause-shape c = λ i. record {
  low = low_bits c.args.ints.now c.in-Some.known c.in-Some.ensures c.requires.limit i;
  high = high_bits c.args.ints.now c.in-Some.known c.in-Some.ensures c.requires.limit i;
}

pub returns-in-Some-clause-small : goal.returns-in-Some-clause-small
returns-in-Some-clause-small c = held-small c.args.ints.now c.in-Some.known c.in-Some.ensures c.requires.limit
