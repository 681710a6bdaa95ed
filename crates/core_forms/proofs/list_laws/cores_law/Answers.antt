use Rattle.core_forms.proofs.CoreLists.{cores_truth-append, cores_truth-agree, CoresBelow-append, CoresBelow-left, CoresBelow-right, CoresBelow-more, AreWellFormed-append, AreWellFormed-left, AreWellFormed-right, costs_of-append}
use Rattle.core_forms.proofs.list_laws.cores_law.Goals as goal

pub returns : goal.returns
returns c = record {
  met = cores_truth-append;
  agree = cores_truth-agree;
  below = λ n cs ds. (λ h. (CoresBelow-left n cs ds h, CoresBelow-right n cs ds h), λ h. CoresBelow-append n cs ds h.0 h.1);
  more = CoresBelow-more;
  well_formed = λ cs ds. (λ h. (AreWellFormed-left cs ds h, AreWellFormed-right cs ds h), λ h. AreWellFormed-append cs ds h.0 h.1);
  costs = costs_of-append;
}
