-- Which equations say that of two members of an all-different constraint with the same two values each has the one that
-- the other has not.
use Rattle.std.specs.Prelude.{ℕ, not, List, [], ◌∷◌, length, Option, None, Some}
use Rattle.order_ints.specs.declared.atom.Atom.{Atom}
use Rattle.order_ints.specs.declared.order_int.OrdInt.{OrdInt}
use Rattle.order_ints.specs.Same.{same_atom}
use Rattle.order_ints.specs.Truth.{not_atom}
use Rattle.rule_base.specs.Pairs.{only_if}
use Rattle.alldiff_rules.specs.Members.{int_at}
use Rattle.alldiff_rules.specs.RowLists.{at_places}
use Rattle.alldiff_rules.specs.Twins.{first_atom}
use Rattle.equation_runs.specs.FreeAtoms.{are_free}
use Rattle.equation_runs.specs.TwinRuns.{twin_at}

-- the pair of two atoms, unless they are one
abbrev pub unless_one : Atom → Atom → List (Atom × Atom)
unless_one q p = only_if (not (same_atom q p)) ((q, p) ∷ [])

-- of the member at a place and its earlier twin
abbrev pub opposite_pair : List OrdInt → ℕ → Option ℕ → List (Atom × Atom)
opposite_pair ints i None = []
opposite_pair ints i (Some j) =
    unless_one (first_atom (int_at ints j).steps) (not_atom (first_atom (int_at ints i).steps))

-- of those at the first places
abbrev pub opposite_pairs : List OrdInt → List Atom → ℕ → List (Atom × Atom)
opposite_pairs ints cs n = at_places n (λ i. opposite_pair ints i (twin_at ints cs i))

-- the atoms of pairs
abbrev pub both_atoms : List (Atom × Atom) → List Atom
both_atoms [] = []
both_atoms (p ∷ ps) = p.0 ∷ p.1 ∷ both_atoms ps

-- pairs, where their atoms are literals of different variables
abbrev pub free_pairs : List (Atom × Atom) → List (Atom × Atom)
free_pairs ps = only_if (are_free (both_atoms ps)) ps

-- of all members
abbrev pub twin_pairs : List OrdInt → List Atom → List (Atom × Atom)
twin_pairs ints cs = free_pairs (opposite_pairs ints cs (length ints))
