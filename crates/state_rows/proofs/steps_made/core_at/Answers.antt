use Rattle.std.proofs.Common.{sym, ◌∙◌}
use Rattle.step_kernel.proofs.There.{there-formed}
use Rattle.state_rows.proofs.steps_made.core_at.Goals as goal

pub returns-clause-well_formed : goal.returns-clause-well_formed
returns-clause-well_formed g c =
    there-formed c.args.state.now c.args.id c.in-Some.core c.in_ok-core.ensures.kernel (sym c.in_ok-core.ensures.trimmed ∙ c.in-Some.is)
