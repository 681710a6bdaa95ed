use Rattle.std.proofs.Common.{subst}
use Rattle.core_occurrences.specs.Lists.{IsOccurrences}
use Rattle.core_occurrences.proofs.Named.{listed-named}
use Rattle.core_occurrences.proofs.by_id.Occurrences.vars.Goals as goal

pub returns-clause-occurrences : goal.returns-clause-occurrences
returns-clause-occurrences c = subst IsOccurrences c.self.view_is (listed-named c.self.inside.bodies.items c.self.inside.cores.items c.self.inside.held c.self.invariant)
