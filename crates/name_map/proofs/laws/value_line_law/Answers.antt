use Rattle.name_map.proofs.LinesTell.{line_tells_number}
use Rattle.name_map.proofs.laws.value_line_law.Goals as goal

pub returns : goal.returns
returns c = line_tells_number
