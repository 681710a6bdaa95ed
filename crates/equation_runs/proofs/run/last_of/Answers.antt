use Rattle.core_forms.proofs.AddedUp.{ends-with}
use Rattle.equation_runs.proofs.run.last_of.Goals as goal

pub returns-in-Some : goal.returns-in-Some
returns-in-Some c = ends-with c.args.ints.now _ c.in-Some.last.now c.in-Some.ensures.cases.0
