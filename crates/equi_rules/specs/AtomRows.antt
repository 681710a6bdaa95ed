-- The equations that the forms over lists of atoms state.
use Rattle.std.specs.Prelude.{ℕ, ◌+◌, Bool, List, [], ◌∷◌, ◌++◌, Option, Some, None}
use Rattle.std.specs.Prelude.{if◌then◌else◌}
use Rattle.order_ints.specs.declared.atom.Atom.{Atom}
use Rattle.order_ints.specs.declared.atom.Atom.TheVariants.{True, False}
use Rattle.order_ints.specs.Truth.{not_atom}
use Rattle.order_ints.specs.Same.{is_true}
use Rattle.core_forms.specs.Trimmed.{has_true}
use Rattle.rule_base.specs.Pairs.{only_if}
use Rattle.rule_base.specs.Stated.{all_equal}

-- a clause: without members there is a contradiction, and an only member is true
abbrev pub clause_equations : List Atom → List (Atom × Atom)
clause_equations [] = (True, False) ∷ []
clause_equations (l ∷ []) = (l, True) ∷ []
clause_equations (l ∷ m ∷ ls) = []

-- a parity: without members odd is a contradiction; an only member is true where it is odd, and else false; of two
-- members one is the negation of the other where it is odd, and else they are equal
abbrev pub parity_equations : List Atom → Bool → List (Atom × Atom)
parity_equations [] odd = only_if odd ((True, False) ∷ [])
parity_equations (l ∷ []) odd = (l, if odd then True else False) ∷ []
parity_equations (l ∷ m ∷ []) odd = (l, if odd then not_atom m else m) ∷ []
parity_equations (l ∷ m ∷ n ∷ ls) odd = []

-- the conjunction of no members is true, and that of one member is the member
abbrev pub conjunction_equations : Atom → List Atom → List (Atom × Atom)
conjunction_equations r [] = (r, True) ∷ []
conjunction_equations r (l ∷ []) = (r, l) ∷ []
conjunction_equations r (l ∷ m ∷ ls) = []

-- a conjunction: these, and where it is True each member is true
abbrev pub conj_equations : Atom → List Atom → List (Atom × Atom)
conj_equations r ls = conjunction_equations r ls ++ only_if (is_true r) (all_equal ls True)

-- the members beside the first True one; none where no member is True
abbrev pub beside_true : List Atom → List Atom
beside_true [] = []
beside_true (l ∷ ls) = if is_true l then ls else (if has_true ls then l ∷ beside_true ls else [])

-- the place of the first True member, of which the first one stands at n
abbrev pub place_of_true : ℕ → List Atom → Option ℕ
place_of_true n [] = None
place_of_true n (l ∷ ls) = if is_true l then Some n else place_of_true (n + 1) ls

-- at most one: where a member is True, each other one is false
abbrev pub amo_equations : List Atom → List (Atom × Atom)
amo_equations ls = all_equal (beside_true ls) False
