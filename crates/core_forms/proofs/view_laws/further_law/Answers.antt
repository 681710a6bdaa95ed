use Rattle.core_forms.proofs.ViewLaws.{well_formed-further, cost-further, cost-composed}
use Rattle.core_forms.proofs.view_laws.further_law.Goals as goal

pub returns : goal.returns
returns c = record { well_formed = well_formed-further; cost = cost-further; composed = cost-composed }
