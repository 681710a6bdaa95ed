use Rattle.core_forms.proofs.CostLaws.{cost-fits}
use Rattle.core_forms.proofs.cost_laws.memory_law.Goals as goal

pub returns : goal.returns
returns c = cost-fits
