-- Words of integers that have at most one step each, and which of two stands first.
use Rattle.std.specs.Prelude.{◌≡◌, ℕ, nat_lt, Bool, true, false, ◌&&◌, List, [], ◌∷◌, ◌++◌}
use Rattle.std.specs.Prelude.{length, Option, None, Some, int_lt, if◌then◌else◌}
use Rattle.std.specs.Bool.{beq}
use Rattle.std.specs.Option.{option_or}
use Rattle.std.specs.Ordering.{int_eq}
use Rattle.order_ints.specs.declared.atom.Atom.{Atom}
use Rattle.order_ints.specs.declared.order_int.OrdInt.{OrdInt}
use Rattle.order_ints.specs.Truth.{Valuation, atom_truth}
use Rattle.order_ints.specs.OrderValue.{value_of}
use Rattle.core_forms.specs.Variables.{atom_vars, ints_vars}
use Rattle.table_rules.specs.Rows.{are_equal_in}

-- how many pairs at the front of an order of words are looked at alone
abbrev pub first_pairs : ℕ
first_pairs = 16

-- each integer has at most one step
abbrev pub are_short : List OrdInt → Bool
are_short [] = true
are_short (a ∷ ints) = nat_lt (length a.steps) 2 && are_short ints

-- the variables of two words and of the atom that tells which one is first
abbrev pub word_vars : Atom → List OrdInt → List OrdInt → List ℕ
word_vars truth front back = atom_vars truth ++ (ints_vars front ++ ints_vars back)

-- whether the first word stands before the second, at the first place at which they differ
abbrev pub which_first : Valuation → List OrdInt → List OrdInt → Option Bool
which_first σ [] back = None
which_first σ (a ∷ front) [] = None
which_first σ (a ∷ front) (b ∷ back) =
    if int_eq (value_of σ a) (value_of σ b)
    then which_first σ front back
    else Some (int_lt (value_of σ a) (value_of σ b))

-- a truth value is the one that is told, if one is
abbrev pub is_the_told : Bool → Option Bool → Bool
is_the_told truth None = false
is_the_told truth (Some told) = beq truth told

-- an atom says which of two words is first, and of equal words what is told of these, if anything is
abbrev pub is_told : Valuation → Atom → Option Bool → List OrdInt → List OrdInt → Bool
is_told σ truth equal front back = is_the_told (atom_truth σ truth) (option_or (which_first σ front back) equal)

-- the atoms of a pair are equally true wherever it is told so
abbrev pub AreEqualWhereTold : Atom → Option Bool → List OrdInt → List OrdInt → Atom × Atom → Type 0
AreEqualWhereTold truth equal front back p =
    (σ : Valuation) → is_told σ truth equal front back ≡ true → are_equal_in σ p ≡ true
