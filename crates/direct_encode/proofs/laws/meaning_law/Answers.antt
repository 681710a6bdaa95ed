use Rattle.direct_encode.proofs.CoreTruths.{truth-clauses_of}
use Rattle.direct_encode.proofs.laws.meaning_law.Goals as goal

pub returns : goal.returns
returns c = truth-clauses_of
