use Rattle.conflict_analysis.proofs.Newness.{learned-false, learned-unit, learned-range, conflict-here}
use Rattle.conflict_analysis.proofs.laws.standing_laws.Goals as goal

pub returns : goal.returns
returns c = record { is_false = learned-false; unit = learned-unit; range = learned-range; here = conflict-here }
