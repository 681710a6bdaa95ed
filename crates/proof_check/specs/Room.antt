-- A line whose lists stand in room.
use Rattle.proof_check.specs.declared.line.ProofLine.{ProofLine}
use Rattle.proof_check.specs.declared.line.ProofLine.TheVariants.{Add, Delete}
use Rattle.proof_check.specs.declared.read.LineHead.{LineHead}
use Rattle.proof_check.specs.declared.read.LineHead.TheVariants.{Addition, Deletion}
use Rattle.proof_check.specs.declared.read.LineRoom.{LineRoom}

-- the line that such a head and room make
abbrev pub line_in : LineHead → LineRoom → ProofLine
line_in (Addition id) room = Add id room.lits.items room.hints.items
line_in (Deletion at) room = Delete at room.ids.items
