use Rattle.order_ints.proofs.Everywhere.{levels_below}
use Rattle.order_ints.proofs.Reaching.{AtomBelow-at_of}
use Rattle.order_ints.proofs.Negation.{StepsBelow-negated}
use Rattle.order_ints.proofs.Multiples.{IntBelow-scaled_of}
use Rattle.order_ints.proofs.Gains.{StepsBelow-more}
use Rattle.order_ints.proofs.order_laws.below_law.Goals as goal

pub returns-clause-at : goal.returns-clause-at
returns-clause-at c = AtomBelow-at_of

pub returns-clause-negated : goal.returns-clause-negated
returns-clause-negated c = λ n a below. StepsBelow-negated n a.steps below

pub returns-clause-scaled : goal.returns-clause-scaled
returns-clause-scaled c = IntBelow-scaled_of

pub returns-clause-more : goal.returns-clause-more
returns-clause-more c = λ n m a le below. StepsBelow-more n m a.steps le below

pub returns-clause-levels : goal.returns-clause-levels
returns-clause-levels c = levels_below
