-- The two ways in which the clauses of a product are made at a pair of places.
use Rattle.std.specs.Prelude.{ℕ, List, [], ◌∷◌, pos, ◌+ℤ◌}
use Rattle.order_ints.specs.declared.atom.Atom.{Atom}
use Rattle.order_ints.specs.declared.order_int.OrdInt.{OrdInt}
use Rattle.order_ints.specs.Truth.{not_atom}
use Rattle.order_ints.specs.OrderLevels.{at_of}
use Rattle.direct_encode.specs.Tables.{from_pair, up_to_pair, at_pair, product_at}

-- where no value is negative: from the pair on, and up to it
abbrev pub natural_pair : OrdInt → OrdInt → OrdInt → ℕ → ℕ → List (List Atom)
natural_pair a b c i j =
    from_pair a b i j (at_of c (product_at a b i j))
    ∷ up_to_pair a b i j (not_atom (at_of c (product_at a b i j +ℤ pos 1))) ∷ []

-- and otherwise: at the pair alone
abbrev pub signed_pair : OrdInt → OrdInt → OrdInt → ℕ → ℕ → List (List Atom)
signed_pair a b c i j =
    at_pair a b i j (at_of c (product_at a b i j))
    ∷ at_pair a b i j (not_atom (at_of c (product_at a b i j +ℤ pos 1))) ∷ []
