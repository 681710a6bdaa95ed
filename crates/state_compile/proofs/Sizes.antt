-- The sizes of cores: trimming never raises them, and they add up.
use Rattle.std.proofs.Common.{◌≡◌, ℕ, suc, ◌+◌, ◌≤◌, List, [], ◌∷◌, ◌++◌, map, length, refl, ap, ◌∙◌, sym, subst, arith}
use Rattle.order_ints.specs.declared.atom.Atom.{Atom}
use Rattle.order_ints.specs.declared.atom.Atom.TheVariants.{True, False, Of}
use Rattle.order_ints.specs.declared.order_int.OrdInt.{OrdInt}
use Rattle.order_ints.specs.Label.{IsLater, with_own_labels}
use Rattle.order_ints.specs.View.{resolve}
use Rattle.core_forms.specs.declared.form.Core.{Core}
use Rattle.core_forms.specs.declared.form.Core.TheVariants.{Ladder, Clause, Parity, Conj, Comp, LeqR, EqR, Sum3, Count, Sum, Max, AllDiff, Amo, Prod, DivMod, Lex}
use Rattle.core_forms.specs.Cores.{CoresBelow, AreWellFormed}
use Rattle.core_forms.specs.Place.{CoreBelow}
use Rattle.core_forms.specs.Resolved.{map_ints}
use Rattle.core_forms.specs.Shapes.{pairs_of_steps}
use Rattle.core_forms.specs.Trimmed.{without_constants, tidied_ints, trimmed_core}
use Rattle.core_forms.specs.WellFormed.{IsWellFormed}
use Rattle.core_forms.proofs.CostLaws.{cost-trimmed}
use Rattle.core_forms.proofs.Kept.{IsWellFormed-trimmed}
use Rattle.core_forms.proofs.Labelled.{trimmed_later}
use Rattle.step_kernel.specs.Kernel.{core_at, pending}
use Rattle.step_kernel.specs.Steps.{without}
use Rattle.step_kernel.proofs.Costs.{trimmed-more}
use Rattle.step_kernel.proofs.Holes.{between}
use Rattle.std.specs.Prelude.{Option, Some}
use Rattle.core_parts.specs.Size.{members_of, size_of, sizes_of}

-- ---- members

literals-left : (f : Atom → Atom) (ls : List Atom) → length (without_constants (map f ls)) ≤ length ls
literals-left f [] = omega arith
literals-left f (a ∷ ls) = by (f a) (literals-left f ls)
  where
    by : (b : Atom) → length (without_constants (map f ls)) ≤ length ls → length (without_constants (b ∷ map f ls)) ≤ suc (length ls)
    by True h = omega (arith, h)
    by False h = omega (arith, h)
    by (Of l) h = omega (arith, h)

ints-left : (f : Atom → Atom) (ints : List OrdInt) → length (tidied_ints (map_ints f ints)) ≡ length ints
ints-left f [] = refl
ints-left f (a ∷ ints) = ap suc (ints-left f ints)

pairs-left : (f : Atom → Atom) (front back : List OrdInt) → length (pairs_of_steps (tidied_ints (map_ints f front)) (tidied_ints (map_ints f back))) ≡ length (pairs_of_steps front back)
pairs-left f [] back = refl
pairs-left f (a ∷ front) [] = refl
pairs-left f (a ∷ front) (b ∷ back) = ap suc (pairs-left f front back)

members-trimmed : (view : List Atom) (core : Core) → members_of (trimmed_core view core) ≤ members_of core
members-trimmed view (Ladder a) = omega arith
members-trimmed view (Clause ls) = omega arith
members-trimmed view (Parity ls odd) = omega arith
members-trimmed view (Conj r ls) = omega arith
members-trimmed view (Comp a b hi lo) = omega arith
members-trimmed view (LeqR r a b) = omega arith
members-trimmed view (EqR r a b) = omega arith
members-trimmed view (Sum3 a b c) = omega arith
members-trimmed view (Count ls c) = omega (arith, literals-left (resolve view) ls)
members-trimmed view (Sum ints k) = omega (arith, ints-left (resolve view) ints)
members-trimmed view (Max ints c) = omega arith
members-trimmed view (AllDiff ints cs) = omega (arith, ints-left (resolve view) ints)
members-trimmed view (Amo ls) = omega arith
members-trimmed view (Prod a b c) = omega arith
members-trimmed view (DivMod a b q r) = omega arith
members-trimmed view (Lex r strict front back) = omega (arith, pairs-left (resolve view) front back)

-- ---- sizes as a store has them

pub size-trimmed : (view : List Atom) (core : Core) → IsWellFormed core → size_of (trimmed_core view core) ≤ size_of core
size-trimmed view core formed = omega (arith, cost-trimmed view core formed, members-trimmed view core)

abbrev pub trimmed_sizes : List Atom → List Core → ℕ
trimmed_sizes view cores = sizes_of (map (trimmed_core view) cores)

pub sizes-append : (view : List Atom) (cs ds : List Core) → trimmed_sizes view (cs ++ ds) ≡ trimmed_sizes view cs + trimmed_sizes view ds
sizes-append view [] ds = omega arith
sizes-append view (c ∷ cs) ds = omega (arith, sizes-append view cs ds)

pub sizes-bound : (view : List Atom) (cs : List Core) → AreWellFormed cs → trimmed_sizes view cs ≤ sizes_of cs
sizes-bound view [] formed = omega arith
sizes-bound view (c ∷ cs) formed = omega (arith, size-trimmed view c formed.0, sizes-bound view cs formed.1)

size-later : (n : ℕ) (old new : List Atom) (core : Core) → IsLater old new → CoreBelow n core → IsWellFormed core → size_of (trimmed_core new core) ≤ size_of (trimmed_core old core)
size-later n old new core later below formed =
    subst (λ c. size_of c ≤ size_of (trimmed_core old core)) (trimmed_later n old new core later below)
    (size-trimmed new (trimmed_core old core) (IsWellFormed-trimmed old core formed))

-- a later store raises none
pub sizes-later : (n : ℕ) (old new : List Atom) (cs : List Core) → IsLater old new → CoresBelow n cs → AreWellFormed cs → trimmed_sizes new cs ≤ trimmed_sizes old cs
sizes-later n old new [] later below formed = omega arith
sizes-later n old new (c ∷ cs) later below formed =
    omega (arith, size-later n old new c later below.0 formed.0, sizes-later n old new cs later below.1 formed.1)

-- further variables, each its own label, change none
pub sizes-more : (n : ℕ) (view : List Atom) (count : ℕ) (cs : List Core) → CoresBelow n cs → trimmed_sizes (with_own_labels view count) cs ≡ trimmed_sizes view cs
sizes-more n view count [] below = refl
sizes-more n view count (c ∷ cs) below =
    let e = ap size_of (trimmed-more n view count c below.0) in
    let r = sizes-more n view count cs below.1 in
    omega (arith, e, r)

sizes-between : (view : List Atom) (front back : List Core) (core : Core) → trimmed_sizes view (front ++ core ∷ back) ≡ size_of (trimmed_core view core) + trimmed_sizes view (front ++ back)
sizes-between view [] back core = refl
sizes-between view (c ∷ front) back core = omega (arith, sizes-between view front back core)

-- a pending core and the others
pub sizes-there : (view : List Atom) (cores : List (Option Core)) (id : ℕ) (core : Core) → core_at cores id ≡ Some core
    → trimmed_sizes view (pending cores) ≡ size_of (trimmed_core view core) + trimmed_sizes view (pending (without cores id))
sizes-there view cores id core at =
    let b = between cores id core at in
    ap (trimmed_sizes view) b.is ∙ sizes-between view b.front b.back core ∙ ap (λ cs. size_of (trimmed_core view core) + trimmed_sizes view cs) (sym b.gone)
