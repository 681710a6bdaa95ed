use Rattle.decompose.proofs.FormLaws.{form-parts}
use Rattle.decompose.proofs.laws.parts_law.Goals as goal

pub returns : goal.returns
returns c = form-parts
