use Rattle.step_kernel.proofs.CnfLaws.{in_range-of, models-of}
use Rattle.step_kernel.proofs.state.State.cnf.Goals as goal

pub returns-clause-in_range : goal.returns-clause-in_range
returns-clause-in_range c = in_range-of c.args.self.now c.made_cnf.result c.made_cnf.ensures.kernel c.made_cnf.ensures.shape

pub returns-clause-models : goal.returns-clause-models
returns-clause-models c = models-of c.args.self.now c.made_cnf.result c.made_cnf.ensures.kernel c.made_cnf.ensures.shape
