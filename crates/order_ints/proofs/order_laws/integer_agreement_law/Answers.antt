use Rattle.order_ints.proofs.Truths.{atom_truth-agree}
use Rattle.order_ints.proofs.Gains.{value_of-agree, in_order-agree}
use Rattle.order_ints.proofs.order_laws.integer_agreement_law.Goals as goal

pub returns-clause-atom : goal.returns-clause-atom
returns-clause-atom c = atom_truth-agree

pub returns-clause-value : goal.returns-clause-value
returns-clause-value c = value_of-agree

pub returns-clause-order : goal.returns-clause-order
returns-clause-order c = λ n σ τ a same below. in_order-agree n σ τ a.steps same below
