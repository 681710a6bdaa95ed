-- The clauses of the forms over lists of atoms.
use Rattle.std.specs.Prelude.{Bool, not, List, [], ◌∷◌, ◌++◌, map, if◌then◌else◌}
use Rattle.order_ints.specs.declared.atom.Atom.{Atom}
use Rattle.order_ints.specs.Truth.{not_atom}

-- each choice of truth values with the other parity is excluded; a choice that makes the first member false comes first
abbrev pub parity_clauses : List Atom → Bool → List (List Atom)
parity_clauses [] odd = if odd then [] ∷ [] else []
parity_clauses (l ∷ ls) odd =
    map (λ c. l ∷ c) (parity_clauses ls odd) ++ map (λ c. not_atom l ∷ c) (parity_clauses ls (not odd))

-- where r is true each member is
abbrev pub member_clauses : Atom → List Atom → List (List Atom)
member_clauses r ls = map (λ l. not_atom r ∷ l ∷ []) ls

-- r is true exactly where all members are
abbrev pub conj_clauses : Atom → List Atom → List (List Atom)
conj_clauses r ls = member_clauses r ls ++ (r ∷ map not_atom ls) ∷ []

-- hi is a or b, and lo is a and b
abbrev pub comp_clauses : Atom → Atom → Atom → Atom → List (List Atom)
comp_clauses a b hi lo =
    (not_atom a ∷ hi ∷ []) ∷ (not_atom b ∷ hi ∷ []) ∷ (not_atom hi ∷ a ∷ b ∷ [])
    ∷ (not_atom lo ∷ a ∷ []) ∷ (not_atom lo ∷ b ∷ []) ∷ (lo ∷ not_atom a ∷ not_atom b ∷ []) ∷ []

-- not both, for one atom and each of others
abbrev pub apart_clauses : Atom → List Atom → List (List Atom)
apart_clauses l ls = map (λ m. not_atom l ∷ not_atom m ∷ []) ls

-- of each two places not both members are true
abbrev pub amo_clauses : List Atom → List (List Atom)
amo_clauses [] = []
amo_clauses (l ∷ ls) = apart_clauses l ls ++ amo_clauses ls
