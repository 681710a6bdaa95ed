use Rattle.core_forms.proofs.ViewLaws.{trimmed_alike, trimmed_by_labels}
use Rattle.core_forms.proofs.view_laws.congruence_law.Goals as goal

pub returns : goal.returns
returns c = record { atoms = trimmed_alike; labels = trimmed_by_labels }
