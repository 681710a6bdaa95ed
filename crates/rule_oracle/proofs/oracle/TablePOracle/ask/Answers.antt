use Rattle.rule_oracle.proofs.Weaker.{some-both, runs-both}
use Rattle.rule_oracle.proofs.oracle.TablePOracle.ask.Goals as goal

pub returns-clause-some : goal.returns-clause-some
returns-clause-some g c = some-both c.args.core.now c.find.result c.find.ensures.some

pub returns-clause-run : goal.returns-clause-run
returns-clause-run g c = runs-both c.args.core.now c.find.result c.find.ensures.run
