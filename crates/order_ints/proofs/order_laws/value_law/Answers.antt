use Rattle.order_ints.proofs.Gains.{low-le, high-ge}
use Rattle.order_ints.proofs.Reaching.{Contains-value_of}
use Rattle.order_ints.proofs.order_laws.value_law.Goals as goal

pub returns-clause-low : goal.returns-clause-low
returns-clause-low c = low-le

pub returns-clause-high : goal.returns-clause-high
returns-clause-high c = high-ge

pub returns-clause-listed : goal.returns-clause-listed
returns-clause-listed c = Contains-value_of
