-- The clauses that say that integers are ordered.
use Rattle.std.specs.Prelude.{ℕ, List, [], ◌∷◌, ◌++◌}
use Rattle.order_ints.specs.declared.atom.Atom.{Atom}
use Rattle.order_ints.specs.declared.order_int.OrdInt.{OrdInt}
use Rattle.order_ints.specs.Truth.{not_atom}

-- a step is true, or the step above it is not; so for each two neighbouring steps, the lower one given first
abbrev pub order_clauses_above : Atom → List (Atom × ℕ) → List (List Atom)
order_clauses_above lower [] = []
order_clauses_above lower (s ∷ steps) = (lower ∷ not_atom s.0 ∷ []) ∷ order_clauses_above s.0 steps

-- the clauses that say that steps are in order
abbrev pub order_clauses_of_steps : List (Atom × ℕ) → List (List Atom)
order_clauses_of_steps [] = []
order_clauses_of_steps (s ∷ steps) = order_clauses_above s.0 steps

-- the clauses that say that an integer is ordered
abbrev pub order_clauses : OrdInt → List (List Atom)
order_clauses a = order_clauses_of_steps a.steps

-- those of each integer
abbrev pub orders_of : List OrdInt → List (List Atom)
orders_of [] = []
orders_of (a ∷ ints) = order_clauses a ++ orders_of ints
