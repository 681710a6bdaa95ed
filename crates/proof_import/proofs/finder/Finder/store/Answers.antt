use Rattle.proof_import.proofs.finder.Finder.store.Goals as goal

pub keep-requires-clause-lits : goal.keep-requires-clause-lits
keep-requires-clause-lits c = λ l has. c.is_ready.ensures.lits c.if-not-is_ready.false l has
