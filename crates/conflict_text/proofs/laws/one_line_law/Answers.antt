use Rattle.conflict_text.proofs.OneLine.{one-next}
use Rattle.conflict_text.proofs.laws.one_line_law.Goals as goal

pub returns : goal.returns
returns c = one-next
