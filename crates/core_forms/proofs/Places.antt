-- Where the variables of a trimmed core have a place.
use Rattle.std.proofs.Common.{ℕ, List, ◌≤◌}
use Rattle.order_ints.specs.declared.atom.Atom.{Atom}
use Rattle.order_ints.specs.declared.atom.Atom.TheVariants.{True, False}
use Rattle.order_ints.specs.Place.{AtomBelow, AtomsBelow}
use Rattle.order_ints.specs.View.{resolve}
use Rattle.order_ints.proofs.PlaceLaws.{AtomBelow-resolve, AtomBelow-up}
use Rattle.core_forms.specs.declared.form.Core.{Core}
use Rattle.core_forms.specs.Place.{CoreBelow}
use Rattle.core_forms.specs.Each.{EachAtom}
use Rattle.core_forms.specs.Resolved.{resolved_core}
use Rattle.core_forms.specs.Trimmed.{trimmed_core}
use Rattle.core_forms.proofs.EachLaws.{each_below, below_each, each_map, each_tidied}

-- what holds of True and False and of the labels of a core's atoms holds of each atom of the trimmed core
pub each_trimmed : (P : Atom → Type 0) → P True → P False → (view : List Atom) (core : Core) → EachAtom (λ a. P (resolve view a)) core → EachAtom P (trimmed_core view core)
each_trimmed P at_true at_false view core h = each_tidied P at_true at_false (resolved_core view core) (each_map P (resolve view) core h)

-- where the variables of the core and of the labels are below n, those of the trimmed core are
pub CoreBelow-trimmed : (n : ℕ) (view : List Atom) (core : Core) → CoreBelow n core → AtomsBelow n view → CoreBelow n (trimmed_core view core)
CoreBelow-trimmed n view core below labels =
    below_each n (trimmed_core view core) (each_trimmed (AtomBelow n) tt tt view core
    (each_below n (λ a. AtomBelow n (resolve view a)) (λ a h. AtomBelow-resolve n view labels a h) core below))

-- what has its variables below n has them below each greater bound
pub CoreBelow-more : (n m : ℕ) (core : Core) → n ≤ m → CoreBelow n core → CoreBelow m core
CoreBelow-more n m core up below = below_each m core (each_below n (AtomBelow m) (AtomBelow-up n m up) core below)
