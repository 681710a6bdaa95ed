use Rattle.core_parts.proofs.PartLaws.{parts-of_compound}
use Rattle.core_parts.proofs.PartSizes.{parts-smaller}
use Rattle.core_parts.proofs.laws.parts_law.Goals as goal

pub returns-clause-stand : goal.returns-clause-stand
returns-clause-stand c = parts-of_compound

pub returns-clause-smaller : goal.returns-clause-smaller
returns-clause-smaller c = λ core next compound first formed below room.
    parts-smaller core next compound (parts-of_compound core next compound first formed below room).cost
