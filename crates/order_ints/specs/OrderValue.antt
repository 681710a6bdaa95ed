-- The value of an integer in the order encoding, and when it is ordered.
use Rattle.std.specs.Prelude.{ℕ, ◌+◌, Bool, true, ◌&&◌, not, List, [], ◌∷◌, ℤ, pos, ◌+ℤ◌}
use Rattle.std.specs.Prelude.{IsTrue, if◌then◌else◌}
use Rattle.order_ints.specs.declared.atom.Atom.{Atom}
use Rattle.order_ints.specs.declared.order_int.OrdInt.{OrdInt}
use Rattle.order_ints.specs.Truth.{Valuation, atom_truth}

-- the weights of the true steps, added up
abbrev pub gains : Valuation → List (Atom × ℕ) → ℕ
gains σ [] = 0
gains σ (s ∷ steps) = (if atom_truth σ s.0 then s.1 else 0) + gains σ steps

-- the value of an integer: its base plus the weights of its true steps
abbrev pub value_of : Valuation → OrdInt → ℤ
value_of σ a = a.base +ℤ pos (gains σ a.steps)

-- no step is true
abbrev pub none_true : Valuation → List (Atom × ℕ) → Bool
none_true σ [] = true
none_true σ (s ∷ steps) = not (atom_truth σ s.0) && none_true σ steps

-- no true step follows a false one
abbrev pub in_order : Valuation → List (Atom × ℕ) → Bool
in_order σ [] = true
in_order σ (s ∷ steps) = if atom_truth σ s.0 then in_order σ steps else none_true σ steps

-- an integer is ordered where no true step follows a false one
abbrev pub IsOrdered : Valuation → OrdInt → Type 0
IsOrdered σ a = IsTrue (in_order σ a.steps)
