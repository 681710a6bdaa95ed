use Rattle.std.proofs.Common.{ℕ, ◌+◌, sym, subst, arith}
use Rattle.core_forms.specs.Place.{CoreBelow}
use Rattle.step_kernel.proofs.CutSplits.{stable-there}
use Rattle.step_kernel.proofs.There.{there-formed, there-below, there-room}
use Rattle.step_kernel.proofs.state.State.cut_core.Goals as goal

pub cut-requires-clause-well_formed : goal.cut-requires-clause-well_formed
cut-requires-clause-well_formed c =
    there-formed c.args.self.now c.args.id c.args.core.now c.vars.ensures.kernel (stable-there c.args.self.now c.args.id c.args.core.now c.requires.there c.requires.stable)

pub cut-requires-clause-below : goal.cut-requires-clause-below
cut-requires-clause-below c =
    subst (λ (n : ℕ). CoreBelow (n + 1) c.args.core.now) (sym c.vars.ensures.vars)
    (there-below c.args.self.now c.args.id c.args.core.now c.vars.ensures.kernel (stable-there c.args.self.now c.args.id c.args.core.now c.requires.there c.requires.stable))

pub cut-requires-clause-room : goal.cut-requires-clause-room
cut-requires-clause-room c =
    omega (arith, c.vars.ensures.vars, there-room c.args.self.now c.args.id c.args.core.now c.vars.ensures.kernel (stable-there c.args.self.now c.args.id c.args.core.now c.requires.there c.requires.stable))
