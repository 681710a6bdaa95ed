use Rattle.equation_runs.proofs.Turns.{form-told, form-over}
use Rattle.equation_runs.proofs.run.run_of_form.Goals as goal

pub returns-clause-told : goal.returns-clause-told
returns-clause-told g c = form-told c.args.core.now c.equations_of_form.result c.equations_of_form.ensures

pub returns-clause-below : goal.returns-clause-below
returns-clause-below g c = form-over c.args.core.now c.equations_of_form.result c.equations_of_form.ensures
