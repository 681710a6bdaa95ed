-- The cores of members that differ cost at most what their statements weigh.
use Rattle.std.proofs.Common.{ℕ, ◌+◌, ◌≤◌, List, [], ◌∷◌, length, map, arith, length-append}
use Rattle.std.proofs.lemmas.List.{length-map}
use Rattle.order_ints.specs.declared.atom.Atom.{Atom}
use Rattle.order_ints.specs.declared.order_int.OrdInt.{OrdInt}
use Rattle.order_ints.specs.Truth.{not_atom}
use Rattle.core_cost.specs.Relations.{AreAtMost}
use Rattle.core_cost.proofs.Monotone.{eq-mono}
use Rattle.core_forms.specs.declared.form.Core.{Core}
use Rattle.core_forms.specs.declared.form.Core.TheVariants as core
use Rattle.core_forms.specs.Shapes.{steps_of, numbers_of_steps}
use Rattle.core_forms.specs.Cores.{costs_of}
use Rattle.core_forms.proofs.CoreLists.{costs_of-append}
use Rattle.statement_lower.specs.Pairs.{each_vars, each_atoms, each_equal, pairs_vars, pairs_atoms, pairs_equal, difference_made}
use Rattle.model_weight.specs.Pairs.{weight_of_pairs_with, weight_of_pairs, count_of_pairs, weight_of_reified_all_different}
use Rattle.weight_laws.specs.Size.{size_of_made}

-- One member beside each later one.

each-size : (vars : ℕ) (a : OrdInt) (n : ℕ) (ints : List OrdInt) (ms : List ℕ) → steps_of a ≤ n → AreAtMost (numbers_of_steps ints) ms
    → each_vars vars ints + costs_of (each_equal vars a ints) ≤ vars + weight_of_pairs_with n ms
each-size vars a n [] ms h k = omega arith
each-size vars a n (b ∷ ints) [] h k = absurd k
each-size vars a n (b ∷ ints) (m ∷ ms) h k =
    let here = eq-mono (steps_of a) (steps_of b) n m h k.0 in
    let rest = each-size (vars + 1) a n ints ms h k.1 in
    omega (arith, here, rest)

each-atoms : (vars : ℕ) (ints : List OrdInt) (ms : List ℕ) → AreAtMost (numbers_of_steps ints) ms → length (each_atoms vars ints) ≤ length ms
each-atoms vars [] ms k = omega arith
each-atoms vars (b ∷ ints) [] k = absurd k
each-atoms vars (b ∷ ints) (m ∷ ms) k = omega (arith, each-atoms (vars + 1) ints ms k.1)

-- Each two members.

pairs-size : (vars : ℕ) (ints : List OrdInt) (ns : List ℕ) → AreAtMost (numbers_of_steps ints) ns
    → pairs_vars vars ints + costs_of (pairs_equal vars ints) ≤ vars + weight_of_pairs ns
pairs-size vars [] ns h = omega arith
pairs-size vars (a ∷ ints) [] h = absurd h
pairs-size vars (a ∷ ints) (n ∷ ns) h =
    let here = each-size vars a n ints ns h.0 h.1 in
    let rest = pairs-size (each_vars vars ints) ints ns h.1 in
    let both = costs_of-append (each_equal vars a ints) (pairs_equal (each_vars vars ints) ints) in
    omega (arith, here, rest, both)

pairs-atoms : (vars : ℕ) (ints : List OrdInt) (ns : List ℕ) → AreAtMost (numbers_of_steps ints) ns → length (pairs_atoms vars ints) ≤ count_of_pairs ns
pairs-atoms vars [] ns h = omega arith
pairs-atoms vars (a ∷ ints) [] h = absurd h
pairs-atoms vars (a ∷ ints) (n ∷ ns) h =
    let here = each-atoms vars ints ns h.1 in
    let rest = pairs-atoms (each_vars vars ints) ints ns h.1 in
    let both = length-append (each_atoms vars ints) (pairs_atoms (each_vars vars ints) ints) in
    omega (arith, here, rest, both)

pub difference-size : (vars : ℕ) (ints : List OrdInt) (z : Atom) (ns : List ℕ) → AreAtMost (numbers_of_steps ints) ns
    → size_of_made (difference_made vars ints z) ≤ vars + weight_of_reified_all_different ns
difference-size vars ints z ns h =
    let pairs = pairs-size vars ints ns h in
    let atoms = pairs-atoms vars ints ns h in
    let none : Core = core.Conj z (map not_atom (pairs_atoms vars ints)) in
    let both = costs_of-append (pairs_equal vars ints) (none ∷ []) in
    let many = length-map (pairs_atoms vars ints) not_atom in
    omega (arith, pairs, atoms, both, many)

-- Each of these cores costs something.

each-count : (vars : ℕ) (a : OrdInt) (ints : List OrdInt) → length (each_equal vars a ints) ≤ costs_of (each_equal vars a ints)
each-count vars a [] = omega arith
each-count vars a (b ∷ ints) = let rest = each-count (vars + 1) a ints in omega (arith, rest)

pairs-count : (vars : ℕ) (ints : List OrdInt) → length (pairs_equal vars ints) ≤ costs_of (pairs_equal vars ints)
pairs-count vars [] = omega arith
pairs-count vars (a ∷ ints) =
    let here = each-count vars a ints in
    let rest = pairs-count (each_vars vars ints) ints in
    let costs = costs_of-append (each_equal vars a ints) (pairs_equal (each_vars vars ints) ints) in
    let cores = length-append (each_equal vars a ints) (pairs_equal (each_vars vars ints) ints) in
    omega (arith, here, rest, costs, cores)

pub difference-count : (vars : ℕ) (ints : List OrdInt) (z : Atom) → length (difference_made vars ints z).cores ≤ 1 + costs_of (difference_made vars ints z).cores
difference-count vars ints z =
    let pairs = pairs-count vars ints in
    let none : Core = core.Conj z (map not_atom (pairs_atoms vars ints)) in
    let costs = costs_of-append (pairs_equal vars ints) (none ∷ []) in
    let cores = length-append (pairs_equal vars ints) (none ∷ []) in
    omega (arith, pairs, costs, cores)
