use Rattle.core_forms.proofs.Composed.{trimmed_twice, trimmed_again, IsTrimmed-trimmed}
use Rattle.core_forms.proofs.laws.composition_law.Goals as goal

pub returns : goal.returns
returns c = record { composed = trimmed_twice; idempotent = trimmed_again; trimmed = IsTrimmed-trimmed }
