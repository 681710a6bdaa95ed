-- The pairs of atoms over variables, up to order and to the negation of both.
use Rattle.std.specs.Prelude.{◌≡◌, ◌⊎◌, ℕ, true, false, List, [], ◌∷◌, ◌++◌}
use Rattle.order_ints.specs.declared.atom.Atom.{Atom}
use Rattle.order_ints.specs.declared.atom.Atom.TheVariants.{True, False, Of}

-- an atom with each literal over listed variables
abbrev pub pairs_with : Atom → List ℕ → List (Atom × Atom)
pairs_with a [] = []
pairs_with a (v ∷ vars) =
    (a, Of (record { var = v; positive = true })) ∷ (a, Of (record { var = v; positive = false }))
    ∷ pairs_with a vars

-- each listed variable with each literal over a later one
abbrev pub pairs_among : List ℕ → List (Atom × Atom)
pairs_among [] = []
pairs_among (v ∷ vars) = pairs_with (Of (record { var = v; positive = true })) vars ++ pairs_among vars

-- the constants, True with each literal, and each variable with each literal over a later one
abbrev pub pairs_over : List ℕ → List (Atom × Atom)
pairs_over vars = (True, False) ∷ (pairs_with True vars ++ pairs_among vars)

-- a pair is in a list
abbrev pub IsIn : Atom × Atom → List (Atom × Atom) → Type 0
IsIn p [] = ⊥
IsIn p (q ∷ pairs) = (p ≡ q) ⊎ IsIn p pairs
