use Rattle.order_ints.proofs.TruthLaws.{atom_truth-resolve, resolve-nil, MeetsView-nil}
use Rattle.order_ints.proofs.PlaceLaws.{AtomBelow-resolve}
use Rattle.order_ints.proofs.cnf_laws.view_law.Goals as goal

pub returns : goal.returns
returns c = record { truth = atom_truth-resolve; range = AtomBelow-resolve; empty = (resolve-nil, MeetsView-nil) }
