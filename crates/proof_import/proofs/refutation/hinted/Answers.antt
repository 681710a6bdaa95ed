use Rattle.proof_import.proofs.refutation.hinted.Goals as goal

pub returns-in-Refused-clause-exact : goal.returns-in-Refused-clause-exact
returns-in-Refused-clause-exact c = λ line m. c.answer_laws.ensures.faults c.args.whole.now c.args.text.now c.in-Refused.line line (rw c.in-Refused.is at c.in_ok-line.ensures) m

pub returns-in-Proof-clause-exact : goal.returns-in-Proof-clause-exact
returns-in-Proof-clause-exact c = λ line m. absurd (c.answer_laws.ensures.proofs c.args.whole.now c.args.text.now line (rw c.in-Proof.is at c.in_ok-line.ensures) m)
