use Rattle.std.proofs.Common.{sym}
use Rattle.core_forms.specs.OwnVars.{own_vars}
use Rattle.core_forms.proofs.OwnVars.{few-none}
use Rattle.core_forms.proofs.few.few_variables.Goals as goal

pub returns-then-has_many_at_end : goal.returns-then-has_many_at_end
returns-then-has_many_at_end c = sym (few-none (own_vars c.args.core.now) (c.has_many_at_end.ensures c.if-has_many_at_end.true))
