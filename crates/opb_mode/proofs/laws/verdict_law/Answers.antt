use Rattle.opb_mode.proofs.Verdicts.{verdict_true}
use Rattle.opb_mode.proofs.laws.verdict_law.Goals as goal

pub returns : goal.returns
returns c = verdict_true
