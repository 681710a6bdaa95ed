use Rattle.proof_import.proofs.finder.Finder.hints_for.Goals as goal

pub deny_all-requires-clause-lits : goal.deny_all-requires-clause-lits
deny_all-requires-clause-lits c = λ l has. c.is_ready.ensures.lits c.if-not-is_ready.false l has
