-- The clauses that compare two integers.
use Rattle.std.specs.Prelude.{List, [], ◌∷◌, ◌++◌, map, filter, ℤ, pos, ◌+ℤ◌}
use Rattle.order_ints.specs.declared.atom.Atom.{Atom}
use Rattle.order_ints.specs.declared.order_int.OrdInt.{OrdInt}
use Rattle.order_ints.specs.Truth.{not_atom}
use Rattle.order_ints.specs.OrderLevels.{values_of, at_of}
use Rattle.order_ints.specs.Walk.{has_value}

-- where r is true and a is at least v, b is at least v
abbrev pub reaching_clause : Atom → OrdInt → OrdInt → ℤ → List Atom
reaching_clause r a b v = not_atom r ∷ not_atom (at_of a v) ∷ at_of b v ∷ []

-- where r is true, a is at most b: one clause for each value of a
abbrev pub reaching_clauses : Atom → OrdInt → OrdInt → List (List Atom)
reaching_clauses r a b = map (reaching_clause r a b) (values_of a)

-- where r is false and b is at least v, a is above v
abbrev pub exceeding_clause : Atom → OrdInt → OrdInt → ℤ → List Atom
exceeding_clause r a b v = r ∷ not_atom (at_of b v) ∷ at_of a (v +ℤ pos 1) ∷ []

-- where r is false, a is above b: one clause for each value of b
abbrev pub exceeding_clauses : Atom → OrdInt → OrdInt → List (List Atom)
exceeding_clauses r a b = map (exceeding_clause r a b) (values_of b)

-- where r is false, a and b are not both v
abbrev pub differing_clause : Atom → OrdInt → OrdInt → ℤ → List Atom
differing_clause r a b v =
    r ∷ not_atom (at_of a v) ∷ at_of a (v +ℤ pos 1) ∷ not_atom (at_of b v) ∷ at_of b (v +ℤ pos 1) ∷ []

-- the values that both have, upwards
abbrev pub common_values : OrdInt → OrdInt → List ℤ
common_values a b = filter (has_value b) (values_of a)

-- where r is false, a and b differ: one clause for each value that both have
abbrev pub differing_clauses : Atom → OrdInt → OrdInt → List (List Atom)
differing_clauses r a b = map (differing_clause r a b) (common_values a b)

-- r is the truth of a being at most b
abbrev pub leq_clauses : Atom → OrdInt → OrdInt → List (List Atom)
leq_clauses r a b = reaching_clauses r a b ++ exceeding_clauses r a b

-- r is the truth of a and b being equal
abbrev pub eq_clauses : Atom → OrdInt → OrdInt → List (List Atom)
eq_clauses r a b = reaching_clauses r a b ++ (reaching_clauses r b a ++ differing_clauses r a b)
