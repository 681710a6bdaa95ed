use Rattle.drup_check.proofs.Exact.{proof_fits, line_same}
use Rattle.drup_check.proofs.check.check_drup.Goals as goal

pub returns-in-None-clause-exact : goal.returns-in-None-clause-exact
returns-in-None-clause-exact c = λ line m. proof_fits c.args.cnf.now c.requires.few c.args.text.now line (rw c.in-None.is at c.in_ok-first_refused.ensures) m

pub returns-in-Some-clause-complete : goal.returns-in-Some-clause-complete
returns-in-Some-clause-complete c = λ p. absurd (proof_fits c.args.cnf.now c.requires.few c.args.text.now c.in-Some.line p (rw c.in-Some.is at c.in_ok-first_refused.ensures))

pub returns-in-Some-clause-exact : goal.returns-in-Some-clause-exact
returns-in-Some-clause-exact c = λ line m. line_same c.args.cnf.now c.requires.few c.args.text.now c.in-Some.line line (rw c.in-Some.is at c.in_ok-first_refused.ensures) m
