-- The rows of a core's truth table, and what they leave of equations.
use Rattle.std.specs.Prelude.{ℕ, zero, suc, ◌/◌, ◌%◌, nat_eq, Bool, true, false, not, ◌&&◌, ◌||◌, List, []}
use Rattle.std.specs.Prelude.{◌∷◌, length, if◌then◌else◌}
use Rattle.std.specs.Bool.{beq}
use Rattle.std.specs.List.{filter}
use Rattle.order_ints.specs.declared.atom.Atom.{Atom}
use Rattle.order_ints.specs.Truth.{Valuation, valuation_at, atom_truth}
use Rattle.core_forms.specs.declared.form.Core.{Core}
use Rattle.core_forms.specs.Meaning.{core_truth}

-- the row of so many truth values that a number stands for: the first one is the lowest bit
abbrev pub row_of : ℕ → ℕ → List Bool
row_of zero number = []
row_of (suc n) number = nat_eq (number % 2) 1 ∷ row_of n (number / 2)

-- the valuation of listed variables in that row
abbrev pub valuation_in : List ℕ → ℕ → Valuation
valuation_in vars number = valuation_at vars (row_of (length vars) number)

-- two atoms are equally true
abbrev pub are_equal_in : Valuation → Atom × Atom → Bool
are_equal_in σ p = beq (atom_truth σ p.0) (atom_truth σ p.1)

-- the atoms of some pair are not equally true
abbrev pub is_some_apart : Valuation → List (Atom × Atom) → Bool
is_some_apart σ [] = false
is_some_apart σ (p ∷ pairs) = not (are_equal_in σ p) || is_some_apart σ pairs

-- in each of the rows below a number in which the core is met, the atoms are equally true
abbrev pub are_equal_below : Core → List ℕ → Atom × Atom → ℕ → Bool
are_equal_below core vars p zero = true
are_equal_below core vars p (suc number) =
    are_equal_below core vars p number
    && (not (core_truth (valuation_in vars number) core) || are_equal_in (valuation_in vars number) p)

-- what these rows leave of listed pairs, row by row
abbrev pub left_below : Core → List ℕ → List (Atom × Atom) → ℕ → List (Atom × Atom)
left_below core vars pairs zero = pairs
left_below core vars pairs (suc number) =
    if core_truth (valuation_in vars number) core
    then filter (are_equal_in (valuation_in vars number)) (left_below core vars pairs number)
    else left_below core vars pairs number
