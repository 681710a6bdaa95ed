use Rattle.part_base.proofs.PartLaws.{parts-made}
use Rattle.part_base.proofs.laws.parts_law.Goals as goal

pub returns : goal.returns
returns c = parts-made
