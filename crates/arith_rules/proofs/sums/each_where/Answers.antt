use Rattle.rule_base.specs.Stated.{all_equal}
use Rattle.rule_base.proofs.PairLaws.{only_if-found, only_if-none}
use Rattle.arith_rules.proofs.sums.each_where.Goals as goal

pub returns-then-test : goal.returns-then-test
returns-then-test c = only_if-found c.args.sought c.args.test (all_equal c.args.atoms.now c.args.b) c.each.result c.if-test.true c.each.ensures

pub returns : goal.returns
returns c = only_if-none c.args.sought c.args.test (all_equal c.args.atoms.now c.args.b) c.if-test.false
