use Rattle.core_forms.proofs.Labelled.{atoms_resolve, over_vars_resolve, vars_are_own, atoms_label}
use Rattle.core_forms.proofs.labelled_laws.labelled_law.Goals as goal

pub returns : goal.returns
returns c = record { atoms = atoms_resolve; over_vars = over_vars_resolve; vars = vars_are_own; labels = atoms_label }
