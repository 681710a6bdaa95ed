use Rattle.search_laws.proofs.StretchLaws.{stretches_fit}
use Rattle.search_laws.proofs.laws.stretch_law.Goals as goal

pub returns : goal.returns
returns c = stretches_fit
