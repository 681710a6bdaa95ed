use Rattle.core_forms.proofs.Mapped.{core_truth-agree}
use Rattle.core_forms.proofs.VariableLaws.{core_truth-vars}
use Rattle.core_forms.proofs.laws.dependence_law.Goals as goal

pub returns : goal.returns
returns c = record { vars = core_truth-vars; below = core_truth-agree }
