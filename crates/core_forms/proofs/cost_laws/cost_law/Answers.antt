use Rattle.core_forms.proofs.CostLaws.{cost-trimmed}
use Rattle.core_forms.proofs.cost_laws.cost_law.Goals as goal

pub returns : goal.returns
returns c = cost-trimmed
