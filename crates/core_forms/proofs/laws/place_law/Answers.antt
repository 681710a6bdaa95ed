use Rattle.core_forms.proofs.Places.{CoreBelow-trimmed, CoreBelow-more}
use Rattle.core_forms.proofs.VariableLaws.{vars_below, below_vars}
use Rattle.core_forms.proofs.laws.place_law.Goals as goal

pub returns : goal.returns
returns c = record { trimmed = CoreBelow-trimmed; vars = λ n core. (vars_below n core, below_vars n core); more = CoreBelow-more }
