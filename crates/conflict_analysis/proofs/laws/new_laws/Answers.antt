use Rattle.conflict_analysis.proofs.Newness.{learned-new, empty-new, unit-new}
use Rattle.conflict_analysis.proofs.laws.new_laws.Goals as goal

pub returns : goal.returns
returns c = record { learned = learned-new; empty = empty-new; one = unit-new }
