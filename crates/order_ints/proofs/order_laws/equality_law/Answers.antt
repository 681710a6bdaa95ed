use Rattle.order_ints.specs.Equality.{same_atom-tells, same_step-tells, same_int-tells}
use Rattle.order_ints.proofs.order_laws.equality_law.Goals as goal

pub returns-clause-atom : goal.returns-clause-atom
returns-clause-atom c = same_atom-tells

pub returns-clause-step : goal.returns-clause-step
returns-clause-step c = same_step-tells

pub returns-clause-int : goal.returns-clause-int
returns-clause-int c = same_int-tells
