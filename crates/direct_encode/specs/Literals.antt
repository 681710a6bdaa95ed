-- How many literals clauses have.
use Rattle.std.specs.Prelude.{ℕ, ◌+◌, List, [], ◌∷◌, length}
use Rattle.order_ints.specs.declared.atom.Atom.{Atom}

-- the members of all clauses, counted
abbrev pub literals : List (List Atom) → ℕ
literals [] = 0
literals (c ∷ cs) = length c + literals cs
