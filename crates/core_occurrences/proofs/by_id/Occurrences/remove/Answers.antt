use Rattle.std.proofs.Common.{ap}
use Rattle.core_occurrences.specs.Lists.{OccurrenceLists}
use Rattle.core_occurrences.proofs.Named.{body-read-range, removed-read, listed-named, bodies-changed}
use Rattle.core_occurrences.proofs.by_id.Occurrences.remove.Goals as goal

pub remove-requires : goal.remove-requires
remove-requires c = body-read-range c.self.inside.bodies.items c.self.inside.cores.items c.self.inside.held c.args.self.now c.self.invariant c.self.view_is c.args.id c.requires c.as_slice.result.now c.as_slice.ensures.value

pub returns-clause-lists : goal.returns-clause-lists
returns-clause-lists c = removed-read c.self.inside.bodies.items c.self.inside.cores.items c.self.inside.held c.args.self.now c.self.invariant c.self.view_is c.args.id c.requires c.as_slice.result.now c.as_slice.ensures.value c.remove.new.self c.remove.ensures.lists

pub returns-clause-occurrences : goal.returns-clause-occurrences
returns-clause-occurrences c =
    listed-named c.self.inside.bodies.items c.self.inside.cores.items c.remove.new.self
    (bodies-changed c.self.inside.bodies.items c.self.inside.cores.items c.self.inside.held c.self.invariant c.remove.new.self (ap (λ (o : OccurrenceLists). o.ids) c.remove.ensures.lists) c.remove.ensures.occurrences)
