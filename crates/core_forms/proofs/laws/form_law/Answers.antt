use Rattle.core_forms.proofs.Kept.{IsWellFormed-trimmed}
use Rattle.core_forms.proofs.laws.form_law.Goals as goal

pub returns : goal.returns
returns c = IsWellFormed-trimmed
