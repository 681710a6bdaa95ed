use Rattle.order_ints.proofs.Truths.{atom_truth-not_atom, not_atom-not_atom}
use Rattle.order_ints.proofs.order_laws.negated_atom_law.Goals as goal

pub returns-clause-truth : goal.returns-clause-truth
returns-clause-truth c = atom_truth-not_atom

pub returns-clause-twice : goal.returns-clause-twice
returns-clause-twice c = not_atom-not_atom
