use Rattle.std.proofs.Common.{ap}
use Rattle.core_occurrences.specs.Lists.{OccurrenceLists}
use Rattle.core_occurrences.proofs.Named.{body-read-range, occurs-read, added-read, listed-named, bodies-changed}
use Rattle.core_occurrences.proofs.by_id.Occurrences.add.Goals as goal

pub add-requires-clause-id : goal.add-requires-clause-id
add-requires-clause-id c = body-read-range c.self.inside.bodies.items c.self.inside.cores.items c.self.inside.held c.args.self.now c.self.invariant c.self.view_is c.args.id c.requires.id c.as_slice.result.now c.as_slice.ensures.value

pub add-requires-clause-fresh : goal.add-requires-clause-fresh
add-requires-clause-fresh c = λ v listed o. c.requires.fresh v listed ((occurs-read c.self.inside.bodies.items c.self.inside.cores.items c.self.inside.held c.args.self.now c.self.invariant c.self.view_is c.args.id c.requires.id c.as_slice.result.now c.as_slice.ensures.value v).0 o)

pub returns-clause-lists : goal.returns-clause-lists
returns-clause-lists c = added-read c.self.inside.bodies.items c.self.inside.cores.items c.self.inside.held c.args.self.now c.self.invariant c.self.view_is c.args.id c.requires.id c.as_slice.result.now c.as_slice.ensures.value c.args.vars.now c.add.new.self c.add.ensures.lists

pub returns-clause-occurrences : goal.returns-clause-occurrences
returns-clause-occurrences c =
    listed-named c.self.inside.bodies.items c.self.inside.cores.items c.add.new.self
    (bodies-changed c.self.inside.bodies.items c.self.inside.cores.items c.self.inside.held c.self.invariant c.add.new.self (ap (λ (o : OccurrenceLists). o.ids) c.add.ensures.lists) c.add.ensures.occurrences)
