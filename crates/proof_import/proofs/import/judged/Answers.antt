use Rattle.proof_import.proofs.import.judged.Goals as goal

pub returns-in_ok-found-in-Ok-clause-exact : goal.returns-in_ok-found-in-Ok-clause-exact
returns-in_ok-found-in-Ok-clause-exact c line h = absurd (c.in-Ok.ensures.exact line h)
