use Rattle.std.proofs.Common.{ℕ, ◌+◌, sym, subst, arith}
use Rattle.core_forms.specs.Place.{CoreBelow}
use Rattle.step_kernel.proofs.There.{there-formed, there-below, there-room}
use Rattle.step_kernel.proofs.state.State.parts_of_lent.Goals as goal

pub kept_parts-requires-clause-well_formed : goal.kept_parts-requires-clause-well_formed
kept_parts-requires-clause-well_formed c = there-formed c.args.self.now c.args.id c.args.core.now c.vars.ensures.kernel c.requires.there

pub kept_parts-requires-clause-below : goal.kept_parts-requires-clause-below
kept_parts-requires-clause-below c =
    subst (λ (n : ℕ). CoreBelow (n + 1) c.args.core.now) (sym c.vars.ensures.vars)
    (there-below c.args.self.now c.args.id c.args.core.now c.vars.ensures.kernel c.requires.there)

pub kept_parts-requires-clause-room : goal.kept_parts-requires-clause-room
kept_parts-requires-clause-room c = omega (arith, c.vars.ensures.vars, there-room c.args.self.now c.args.id c.args.core.now c.vars.ensures.kernel c.requires.there)
