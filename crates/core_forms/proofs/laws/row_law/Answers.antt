use Rattle.core_forms.proofs.Rows.{core_truth-row}
use Rattle.core_forms.proofs.laws.row_law.Goals as goal

pub returns : goal.returns
returns c = core_truth-row
