use Rattle.core_forms.proofs.Outcomes.{meaning_ok, form_ok, trimmed_ok, place_ok}
use Rattle.core_forms.proofs.trimming.trim.Goals as goal

pub returns-clause-meaning : goal.returns-clause-meaning
returns-clause-meaning c = meaning_ok c.trimmed_form.result c.args.view.now c.args.core.now c.trimmed_form.ensures

pub returns-clause-well_formed : goal.returns-clause-well_formed
returns-clause-well_formed c = form_ok c.trimmed_form.result c.args.view.now c.args.core.now c.requires c.trimmed_form.ensures

pub returns-clause-trimmed : goal.returns-clause-trimmed
returns-clause-trimmed c = trimmed_ok c.trimmed_form.result c.args.view.now c.args.core.now c.trimmed_form.ensures

pub returns-clause-place : goal.returns-clause-place
returns-clause-place c = place_ok c.trimmed_form.result c.args.view.now c.args.core.now c.trimmed_form.ensures
