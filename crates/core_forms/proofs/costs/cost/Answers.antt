use Rattle.core_forms.proofs.CostLaws.{exact_ok}
use Rattle.core_forms.proofs.costs.cost.Goals as goal

pub returns : goal.returns
returns c = exact_ok c.form_cost.result c.args.core.now c.requires c.form_cost.ensures.cost c.form_cost.ensures.fits
