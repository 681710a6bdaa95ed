use Rattle.core_forms.proofs.Stability.{stable_core, stable_further}
use Rattle.core_forms.proofs.stable_laws.stable_law.Goals as goal

pub returns-clause-trimmed : goal.returns-clause-trimmed
returns-clause-trimmed c = stable_core

pub returns-clause-further : goal.returns-clause-further
returns-clause-further c = stable_further
