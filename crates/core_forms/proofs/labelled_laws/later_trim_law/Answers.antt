use Rattle.core_forms.proofs.Labelled.{trimmed_later, later_composed}
use Rattle.core_forms.proofs.labelled_laws.later_trim_law.Goals as goal

pub returns : goal.returns
returns c = record { trimmed = trimmed_later; composed = later_composed }
