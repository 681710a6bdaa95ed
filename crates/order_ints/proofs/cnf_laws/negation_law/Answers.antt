use Rattle.order_ints.proofs.TruthLaws.{lit_truth-not_lit, atom_truth-not_atom}
use Rattle.order_ints.proofs.cnf_laws.negation_law.Goals as goal

pub returns : goal.returns
returns c = record { literal = lit_truth-not_lit; atom = atom_truth-not_atom }
