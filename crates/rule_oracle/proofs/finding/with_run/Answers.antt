use Rattle.rule_oracle.proofs.Weaker.{run-told}
use Rattle.rule_oracle.proofs.finding.with_run.Goals as goal

pub returns-clause-run : goal.returns-clause-run
returns-clause-run g c = run-told c.args.core.now _ c.in_ok-run.ensures.told
