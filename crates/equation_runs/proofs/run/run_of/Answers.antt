use Rattle.equation_runs.proofs.Turns.{told-of, below-of}
use Rattle.equation_runs.proofs.run.run_of.Goals as goal

pub returns-clause-told : goal.returns-clause-told
returns-clause-told g c = told-of c.args.core.now c.equations_in_turn.result c.equations_in_turn.ensures

pub returns-clause-below : goal.returns-clause-below
returns-clause-below g c = below-of c.args.core.now c.equations_in_turn.result c.equations_in_turn.ensures
