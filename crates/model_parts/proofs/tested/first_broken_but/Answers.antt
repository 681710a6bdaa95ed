use Rattle.model_meaning.proofs.SolutionLaws.{first_broken-none}
use Rattle.model_parts.specs.Only.{all_but}
use Rattle.model_parts.proofs.tested.first_broken_but.Goals as goal

pub returns-clause-none : goal.returns-clause-none
returns-clause-none c = rw c.first_left.ensures (first_broken-none c.args.a.now.values (all_but c.args.number c.args.model.now.stmts))
