use Rattle.conflict_analysis.proofs.Newness.{may-resolve}
use Rattle.conflict_analysis.proofs.laws.resolve_law.Goals as goal

pub returns : goal.returns
returns c = may-resolve
