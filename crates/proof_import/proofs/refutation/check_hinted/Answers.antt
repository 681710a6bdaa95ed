use Rattle.std.proofs.Common.{sym, subst}
use Rattle.std.specs.Prelude.{IsErrAnd}
use Rattle.drup_check.specs.Taken.{IsRefusalAt}
use Rattle.proof_import.proofs.refutation.check_hinted.Goals.{in-Refused, in-Proof}
use Rattle.proof_import.proofs.refutation.check_hinted.Goals as goal

pub returns-clause-exact : goal.returns-clause-exact
returns-clause-exact c = elim c.match-branch-2.branch [
  | in-Refused w ↦ λ line m. subst (λ r. IsErrAnd r (IsRefusalAt line)) (sym w.result-is) (c.answer_laws.ensures.faults c.args.cnf.now c.args.text.now w.in-Refused.line line (rw w.in-Refused.is at c.in_ok-line.ensures) m)
  | in-Proof w ↦ λ line m. absurd (c.answer_laws.ensures.proofs c.args.cnf.now c.args.text.now line (rw w.in-Proof.is at c.in_ok-line.ensures) m)
]
