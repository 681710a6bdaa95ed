use Rattle.conflict_text.proofs.WholeText.{written-law}
use Rattle.conflict_text.proofs.laws.written_law.Goals as goal

pub returns : goal.returns
returns c = written-law
