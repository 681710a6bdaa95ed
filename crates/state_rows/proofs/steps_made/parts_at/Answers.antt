use Rattle.std.proofs.Common.{◌≡◌, sym, ap, ◌∙◌, Some}
use Rattle.step_kernel.specs.Kernel.{Kernel, core_at, trimmed_at}
use Rattle.step_kernel.proofs.CutSplits.{stable-there}
use Rattle.step_kernel.proofs.There.{there-formed}
use Rattle.state_rows.proofs.steps_made.parts_at.Goals as goal

pub parts_of_lent-requires-clause-there : goal.parts_of_lent-requires-clause-there
parts_of_lent-requires-clause-there g c =
    let at = c.mark_stable.ensures.stable c.if-mark_stable.true in
    ap (λ (k : Kernel). trimmed_at k c.args.id) c.mark_stable.ensures.stays
    ∙ stable-there c.args.state.now c.args.id at.core at.there at.stable
    ∙ sym at.there ∙ ap (λ (k : Kernel). core_at k.cores c.args.id) (sym c.mark_stable.ensures.stays) ∙ sym c.in-Some.ensures.core

pub parts_of_lent-requires-clause-well_formed : goal.parts_of_lent-requires-clause-well_formed
parts_of_lent-requires-clause-well_formed g c =
    let at = c.mark_stable.ensures.stable c.if-mark_stable.true in
    there-formed c.args.state.now c.args.id c.in-Some.core.now c.mark_stable.ensures.kernel
    (stable-there c.args.state.now c.args.id at.core at.there at.stable
    ∙ sym at.there ∙ ap (λ (k : Kernel). core_at k.cores c.args.id) (sym c.mark_stable.ensures.stays) ∙ sym c.in-Some.ensures.core)
