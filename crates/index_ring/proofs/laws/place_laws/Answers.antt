use Rattle.index_ring.proofs.Lawful.{stands_once, free_exactly, lengths_fit}
use Rattle.index_ring.proofs.laws.place_laws.Goals as goal

pub returns-clause-once : goal.returns-clause-once
returns-clause-once c = stands_once

pub returns-clause-free : goal.returns-clause-free
returns-clause-free c = free_exactly

pub returns-clause-lengths : goal.returns-clause-lengths
returns-clause-lengths c = lengths_fit
