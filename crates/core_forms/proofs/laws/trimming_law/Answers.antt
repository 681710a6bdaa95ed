use Rattle.core_forms.proofs.TidiedCores.{core_truth-trimmed}
use Rattle.core_forms.proofs.laws.trimming_law.Goals as goal

pub returns : goal.returns
returns c = λ n σ view core below meets. core_truth-trimmed σ view n core below meets
