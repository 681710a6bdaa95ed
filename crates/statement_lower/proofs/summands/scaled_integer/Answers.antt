use Rattle.statement_lower.proofs.EntryLaws.{integer_of-fits}
use Rattle.statement_lower.proofs.summands.scaled_integer.Goals as goal

pub scaled-requires-clause-int : goal.scaled-requires-clause-int
scaled-requires-clause-int c = integer_of-fits c.args.entries.now c.args.term _ c.requires.entries c.requires.term c.in-Some.ensures.shape

pub scaled-requires-in-None-clause-int : goal.scaled-requires-in-None-clause-int
scaled-requires-in-None-clause-int c = integer_of-fits c.args.entries.now c.args.term _ c.requires.entries c.requires.term c.in_ok-constant-in-None.ensures
