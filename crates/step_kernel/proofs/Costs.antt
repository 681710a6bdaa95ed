-- What cores cost as a store has them, where the store changes.
use Rattle.std.proofs.Common.{◌≡◌, ℕ, ◌+◌, ◌≤◌, List, [], ◌∷◌, ◌++◌, refl, ap, subst, arith}
use Rattle.order_ints.specs.declared.atom.Atom.{Atom}
use Rattle.order_ints.specs.View.{resolve}
use Rattle.order_ints.specs.Label.{IsLater, with_own_labels}
use Rattle.order_ints.proofs.Labels.{resolve-more}
use Rattle.core_forms.specs.declared.form.Core.{Core}
use Rattle.core_forms.specs.Place.{CoreBelow}
use Rattle.core_forms.specs.WellFormed.{IsWellFormed}
use Rattle.core_forms.specs.Trimmed.{trimmed_core}
use Rattle.core_forms.specs.Cost.{cost_of}
use Rattle.core_forms.specs.Cores.{CoresBelow, AreWellFormed, costs_of}
use Rattle.core_forms.proofs.CostLaws.{cost-trimmed}
use Rattle.core_forms.proofs.Kept.{IsWellFormed-trimmed}
use Rattle.core_forms.proofs.Labelled.{trimmed_later}
use Rattle.core_forms.proofs.ViewLaws.{trimmed_alike}
use Rattle.core_forms.proofs.EachLaws.{each_below}
use Rattle.step_kernel.specs.Kernel.{trimmed_costs}

pub trimmed_costs-append : (view : List Atom) (cs ds : List Core) → trimmed_costs view (cs ++ ds) ≡ trimmed_costs view cs + trimmed_costs view ds
trimmed_costs-append view [] ds = omega arith
trimmed_costs-append view (c ∷ cs) ds = omega (arith, trimmed_costs-append view cs ds)

-- trimming never raises them
pub trimmed_costs-bound : (view : List Atom) (cs : List Core) → AreWellFormed cs → trimmed_costs view cs ≤ costs_of cs
trimmed_costs-bound view [] formed = omega arith
trimmed_costs-bound view (c ∷ cs) formed = omega (arith, cost-trimmed view c formed.0, trimmed_costs-bound view cs formed.1)

-- nor does a later store
cost-later : (n : ℕ) (old new : List Atom) (core : Core) → IsLater old new → CoreBelow n core → IsWellFormed core → cost_of (trimmed_core new core) ≤ cost_of (trimmed_core old core)
cost-later n old new core later below formed =
    subst (λ c. cost_of c ≤ cost_of (trimmed_core old core)) (trimmed_later n old new core later below)
    (cost-trimmed new (trimmed_core old core) (IsWellFormed-trimmed old core formed))

pub trimmed_costs-later : (n : ℕ) (old new : List Atom) (cs : List Core) → IsLater old new → CoresBelow n cs → AreWellFormed cs → trimmed_costs new cs ≤ trimmed_costs old cs
trimmed_costs-later n old new [] later below formed = omega arith
trimmed_costs-later n old new (c ∷ cs) later below formed =
    omega (arith, cost-later n old new c later below.0 formed.0, trimmed_costs-later n old new cs later below.1 formed.1)

-- further variables, each its own label, leave a core as it is trimmed
pub trimmed-more : (n : ℕ) (view : List Atom) (count : ℕ) (core : Core) → CoreBelow n core → trimmed_core (with_own_labels view count) core ≡ trimmed_core view core
trimmed-more n view count core below =
    trimmed_alike (with_own_labels view count) view core
    (each_below n (λ a. resolve (with_own_labels view count) a ≡ resolve view a) (λ a h. resolve-more view count n a h) core below)

pub trimmed_costs-more : (n : ℕ) (view : List Atom) (count : ℕ) (cs : List Core) → CoresBelow n cs → trimmed_costs (with_own_labels view count) cs ≡ trimmed_costs view cs
trimmed_costs-more n view count [] below = refl
trimmed_costs-more n view count (c ∷ cs) below =
    let e = ap cost_of (trimmed-more n view count c below.0) in
    let r = trimmed_costs-more n view count cs below.1 in
    omega (arith, e, r)
