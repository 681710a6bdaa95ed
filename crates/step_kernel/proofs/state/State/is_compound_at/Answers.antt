use Rattle.std.proofs.Common.{sym, ◌∙◌}
use Rattle.step_kernel.proofs.There.{there-formed}
use Rattle.step_kernel.proofs.state.State.is_compound_at.Goals as goal

pub is_compound-requires : goal.is_compound-requires
is_compound-requires c =
    there-formed c.args.self.now c.args.id c.in-Some.core c.in_ok-core.ensures.kernel (sym c.in_ok-core.ensures.trimmed ∙ c.in-Some.is)
