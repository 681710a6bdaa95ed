-- The clauses of a greatest member.
use Rattle.std.specs.Prelude.{List, [], ◌∷◌, ◌++◌, ℤ, map}
use Rattle.order_ints.specs.declared.atom.Atom.{Atom}
use Rattle.order_ints.specs.declared.order_int.OrdInt.{OrdInt}
use Rattle.order_ints.specs.Truth.{not_atom}
use Rattle.order_ints.specs.OrderLevels.{values_of, at_of}

-- where a is at least v, c is
abbrev pub at_most_clause : OrdInt → OrdInt → ℤ → List Atom
at_most_clause a c v = not_atom (at_of a v) ∷ at_of c v ∷ []

-- a is at most c: one clause for each value of a
abbrev pub at_most_clauses : OrdInt → OrdInt → List (List Atom)
at_most_clauses a c = map (at_most_clause a c) (values_of a)

-- each member is at most c
abbrev pub all_at_most_clauses : List OrdInt → OrdInt → List (List Atom)
all_at_most_clauses [] c = []
all_at_most_clauses (a ∷ ints) c = at_most_clauses a c ++ all_at_most_clauses ints c

-- for each integer whether it is at least v
abbrev pub all_at : List OrdInt → ℤ → List Atom
all_at ints v = map (λ a. at_of a v) ints

-- where c is at least v, some member is
abbrev pub some_reaching_clause : List OrdInt → OrdInt → ℤ → List Atom
some_reaching_clause ints c v = not_atom (at_of c v) ∷ all_at ints v

-- c is at most some member: one clause for each value of c
abbrev pub some_reaching_clauses : List OrdInt → OrdInt → List (List Atom)
some_reaching_clauses ints c = map (some_reaching_clause ints c) (values_of c)

-- c is the greatest member
abbrev pub max_clauses : List OrdInt → OrdInt → List (List Atom)
max_clauses ints c = all_at_most_clauses ints c ++ some_reaching_clauses ints c
