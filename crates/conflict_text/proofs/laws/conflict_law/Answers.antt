use Rattle.conflict_text.proofs.ConflictLaws.{conflict-law, irreducible}
use Rattle.conflict_text.proofs.laws.conflict_law.Goals as goal

pub returns : goal.returns
returns c = record { says = conflict-law; irreducible = irreducible }
