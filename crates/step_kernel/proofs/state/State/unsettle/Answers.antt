use Rattle.step_kernel.proofs.SettledStates.{unsettled, unsettled-state}
use Rattle.step_kernel.proofs.state.State.unsettle.Goals as goal

pub invariant_of-self : goal.invariant_of-self
invariant_of-self c =
    let before = c.requires.before in
    unsettled-state before c.args.self.now c.args.id c.args.edge c.requires.settled
    c.self.inside.store c.self.inside.cores.items c.unsettle_at.new.cores.items c.self.inside.clauses c.self.inside.bottom c.self.inside.first c.self.inside.stable
    c.self.view_is c.unsettle_at.ensures.there c.requires.kernel c.self.invariant

pub returns : goal.returns
returns c k settled =
    unsettled k c.args.self.now c.args.id c.args.edge settled
    c.self.inside.store c.self.inside.cores.items c.unsettle_at.new.cores.items c.self.inside.clauses c.self.inside.bottom
    c.self.view_is c.unsettle_at.ensures.there
