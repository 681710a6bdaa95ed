use Rattle.std.proofs.Common.{ℕ, ◌+◌, sym, subst, arith}
use Rattle.core_forms.specs.Place.{CoreBelow}
use Rattle.step_kernel.proofs.There.{there-formed, there-below, there-room}
use Rattle.step_kernel.proofs.state.State.parts_of.Goals as goal

pub parts-requires-clause-well_formed : goal.parts-requires-clause-well_formed
parts-requires-clause-well_formed c = there-formed c.args.self.now c.args.id c.args.core c.vars.ensures.kernel c.requires.there

pub parts-requires-clause-below : goal.parts-requires-clause-below
parts-requires-clause-below c =
    subst (λ (n : ℕ). CoreBelow (n + 1) c.args.core) (sym c.vars.ensures.vars)
    (there-below c.args.self.now c.args.id c.args.core c.vars.ensures.kernel c.requires.there)

pub parts-requires-clause-room : goal.parts-requires-clause-room
parts-requires-clause-room c = omega (arith, c.vars.ensures.vars, there-room c.args.self.now c.args.id c.args.core c.vars.ensures.kernel c.requires.there)
