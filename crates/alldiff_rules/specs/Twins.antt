-- Members with the same two values.
use Rattle.std.specs.Prelude.{◌≡◌, ◌≢◌, ◌⊎◌, ◌==◌, ℕ, not, List, [], ◌∷◌, ◌++◌, ℤ}
use Rattle.std.specs.Prelude.{Option, None, Some}
use Rattle.std.specs.BTreeMap.{BTreeMap, get}
use Rattle.order_ints.specs.declared.atom.Atom.{Atom}
use Rattle.order_ints.specs.declared.atom.Atom.TheVariants.{True}
use Rattle.order_ints.specs.declared.order_int.OrdInt.{OrdInt}
use Rattle.order_ints.specs.Truth.{not_atom}
use Rattle.rule_base.specs.Pairs.{only_if}
use Rattle.alldiff_rules.specs.declared.table.Places.{Places}
use Rattle.alldiff_rules.specs.Table.{pair_cmp}
use Rattle.alldiff_rules.specs.Members.{int_at, IsSure, choice_of}
use Rattle.alldiff_rules.specs.Rows.{AreTwins}

-- the member at the place is sure, and has two values, the greater one where p is true
abbrev pub IsSplitAt : List OrdInt → List Atom → Atom → ℤ → ℕ → ℕ → Type 0
IsSplitAt ints cs p low d i = IsSure cs i × (int_at ints i ≡ choice_of low p d)

-- two members have the same two values, of which p and q tell the greater one
abbrev pub HasTwins : List OrdInt → List Atom → Atom → Atom → Type 0
HasTwins ints cs p q = (i : ℕ) × (j : ℕ) × (low : ℤ) × (d : ℕ) × AreTwins ints cs i j low d p q

-- so of these one is the negation of the other
abbrev pub IsTwinRow : List OrdInt → List Atom → Atom → Atom → Type 0
IsTwinRow ints cs a b = HasTwins ints cs a (not_atom b)

-- the atom of the first step, and True where there is none
abbrev pub first_atom : List (Atom × ℕ) → Atom
first_atom [] = True
first_atom (s ∷ steps) = s.0

-- of a member's atom with that of the member at another place, if that is another
abbrev pub twin_equations : List OrdInt → Atom → ℕ → Option ℕ → List (Atom × Atom)
twin_equations ints p i None = []
twin_equations ints p i (Some j) = only_if (not (j == i)) ((p, not_atom (first_atom (int_at ints j).steps)) ∷ [])

abbrev pub shown_equations : List OrdInt → Atom → ℕ → Option Places → List (Atom × Atom)
shown_equations ints p i None = []
shown_equations ints p i (Some h) =
    twin_equations ints p i (Some h.first) ++ twin_equations ints p i h.second ++ twin_equations ints p i h.third

-- one of the three places
abbrev pub IsShown : ℕ → Option Places → Type 0
IsShown j None = ⊥
IsShown j (Some h) = (j ≡ h.first) ⊎ (Some j ≡ h.second) ⊎ (Some j ≡ h.third)

-- the same of the member at a place and one of the first three with its two values
abbrev pub IsShownTwin : List OrdInt → List Atom → BTreeMap (ℤ × ℕ) Places → ℕ → Atom → Atom → Type 0
IsShownTwin ints cs choices i a b =
    (low : ℤ) × (d : ℕ) × (j : ℕ) × IsSplitAt ints cs a low d i × IsSplitAt ints cs (not_atom b) low d j
    × (j ≢ i)
    × IsShown j (get pair_cmp choices (low, d))
