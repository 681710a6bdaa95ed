use Rattle.core_forms.proofs.VariableLaws.{vars-trimmed}
use Rattle.core_forms.proofs.laws.label_law.Goals as goal

pub returns : goal.returns
returns c = vars-trimmed
