use Rattle.statement_lower.proofs.MeaningLaws.{same_meanings}
use Rattle.statement_lower.proofs.laws.meaning_law.Goals as goal

pub returns : goal.returns
returns c = same_meanings
