use Rattle.std.proofs.Common.{sym, ◌∙◌}
use Rattle.step_kernel.proofs.There.{there-formed}
use Rattle.used_statements.proofs.origins.clauses_at.Goals as goal

pub clauses_of-requires : goal.clauses_of-requires
clauses_of-requires c =
    there-formed c.args.state.now c.args.id c.in-Some.core c.in_ok-core.ensures.kernel (sym c.in_ok-core.ensures.trimmed ∙ c.in-Some.is)
