use Rattle.std.proofs.Common.{arith}
use Rattle.network_encode.specs.NetworkParts.{parts_of}
use Rattle.network_encode.proofs.NetworkLaws.{parts-stand, compound_cost, compound-parts}
use Rattle.network_encode.proofs.laws.parts_law.Goals as goal

pub returns-clause-stand : goal.returns-clause-stand
returns-clause-stand c = parts-stand

pub returns-clause-parts : goal.returns-clause-parts
returns-clause-parts c = λ core next compound form well least below room.
    compound-parts core next (parts_of next core) compound (parts-stand core next form well least below (omega (arith, room, compound_cost core compound)))
