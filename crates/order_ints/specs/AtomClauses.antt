-- When a clause of atoms is true, and when such clauses are true together.
use Rattle.std.specs.Prelude.{Bool, true, false, ◌||◌, ◌&&◌, List, [], ◌∷◌}
use Rattle.order_ints.specs.declared.atom.Atom.{Atom}
use Rattle.order_ints.specs.Truth.{Valuation, atom_truth}

-- a clause of atoms is true where one of its atoms is
abbrev pub atom_clause_truth : Valuation → List Atom → Bool
atom_clause_truth σ [] = false
atom_clause_truth σ (a ∷ atoms) = atom_truth σ a || atom_clause_truth σ atoms

-- clauses of atoms are true together where each of them is
abbrev pub atom_clauses_truth : Valuation → List (List Atom) → Bool
atom_clauses_truth σ [] = true
atom_clauses_truth σ (c ∷ cs) = atom_clause_truth σ c && atom_clauses_truth σ cs
