use Rattle.std.proofs.Common.{subst}
use Rattle.core_occurrences.specs.Lists.{IsOccurrences}
use Rattle.core_occurrences.proofs.Named.{body-read-range, occurs-read, listed-named}
use Rattle.core_occurrences.proofs.by_id.Occurrences.is_absent.Goals as goal

pub is_absent-requires : goal.is_absent-requires
is_absent-requires c = body-read-range c.self.inside.bodies.items c.self.inside.cores.items c.self.inside.held c.args.self.now c.self.invariant c.self.view_is c.args.id c.requires c.as_slice.result.now c.as_slice.ensures.value

pub returns-clause-absent : goal.returns-clause-absent
returns-clause-absent c = (
  λ t v o. c.is_absent.ensures.absent.0 t v ((occurs-read c.self.inside.bodies.items c.self.inside.cores.items c.self.inside.held c.args.self.now c.self.invariant c.self.view_is c.args.id c.requires c.as_slice.result.now c.as_slice.ensures.value v).1 o),
  λ none. c.is_absent.ensures.absent.1 (λ v o. none v ((occurs-read c.self.inside.bodies.items c.self.inside.cores.items c.self.inside.held c.args.self.now c.self.invariant c.self.view_is c.args.id c.requires c.as_slice.result.now c.as_slice.ensures.value v).0 o)),
)

pub returns-clause-occurrences : goal.returns-clause-occurrences
returns-clause-occurrences c = subst IsOccurrences c.self.view_is (listed-named c.self.inside.bodies.items c.self.inside.cores.items c.self.inside.held c.self.invariant)
