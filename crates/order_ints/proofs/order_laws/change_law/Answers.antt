use Rattle.order_ints.proofs.Negation.{value_of-negated_of, in_order-negated, at_of-negated_of}
use Rattle.order_ints.proofs.Multiples.{value_of-shifted_of, value_of-scaled_of, IsOrdered-scaled_of, at_of-shifted_of}
use Rattle.order_ints.proofs.order_laws.change_law.Goals as goal

pub returns-clause-negated : goal.returns-clause-negated
returns-clause-negated c = value_of-negated_of

pub returns-clause-shifted : goal.returns-clause-shifted
returns-clause-shifted c = value_of-shifted_of

pub returns-clause-scaled : goal.returns-clause-scaled
returns-clause-scaled c = value_of-scaled_of

pub returns-clause-negated_order : goal.returns-clause-negated_order
returns-clause-negated_order c = λ σ a. in_order-negated σ a.steps

pub returns-clause-scaled_order : goal.returns-clause-scaled_order
returns-clause-scaled_order c = IsOrdered-scaled_of

pub returns-clause-negated_at : goal.returns-clause-negated_at
returns-clause-negated_at c = at_of-negated_of

pub returns-clause-shifted_at : goal.returns-clause-shifted_at
returns-clause-shifted_at c = at_of-shifted_of
