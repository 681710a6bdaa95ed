-- Resolving: nothing changes its truth, and signs.
use Rattle.std.proofs.Common.{◌≡◌, List}
use Rattle.std.specs.Prelude.{length, ◌+◌}
use Rattle.order_ints.specs.declared.atom.Atom.{Atom}
use Rattle.order_ints.specs.Truth.{Valuation, atom_truth}
use Rattle.order_ints.specs.View.{resolve, MeetsView}
pub use Rattle.order_ints.proofs.Labels.{resolve-label, IsLabel-resolve, resolves_once, IsLabel-with_sign as IsLabel-signed}
use Rattle.order_ints.proofs.TruthLaws.{atom_truth-resolve}
use Rattle.equation_store.specs.Laws.{IsAtomOf}

-- an atom is as true as what it resolves to
pub resolves_truly : (view : List Atom) (a : Atom) (σ : Valuation) → IsAtomOf view a → MeetsView σ view → atom_truth σ (resolve view a) ≡ atom_truth σ a
resolves_truly view a σ inside meets = atom_truth-resolve σ view (length view + 1) meets a inside
