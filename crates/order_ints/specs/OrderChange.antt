-- The negation, the shift and the multiples of an integer.
use Rattle.std.specs.Prelude.{ℕ, zero, suc, ◌*◌, ℤ, pos, negsuc, neg_ℤ, ◌+ℤ◌, ◌*ℤ◌, List, map}
use Rattle.std.specs.Prelude.{reverse}
use Rattle.order_ints.specs.declared.atom.Atom.{Atom}
use Rattle.order_ints.specs.declared.order_int.OrdInt.{OrdInt}
use Rattle.order_ints.specs.Truth.{not_atom}
use Rattle.order_ints.specs.OrderRange.{high_of}
use Rattle.order_ints.specs.OrderMade.{constant_of}

-- a step with its atom negated
abbrev pub negated_step : Atom × ℕ → Atom × ℕ
negated_step s = (not_atom s.0, s.1)

-- minus the integer: the base is minus the greatest value, and the steps stand in reverse order, their atoms negated
abbrev pub negated_of : OrdInt → OrdInt
negated_of a = record { base = neg_ℤ (high_of a); steps = map negated_step (reverse a.steps) }

-- the integer and a constant, added up
abbrev pub shifted_of : OrdInt → ℤ → OrdInt
shifted_of a by = record { base = a.base +ℤ by; steps = a.steps }

-- the steps with their weights multiplied
abbrev pub multiplied_steps : ℕ → List (Atom × ℕ) → List (Atom × ℕ)
multiplied_steps n steps = map (λ s. (s.0, n * s.1)) steps

-- the integer multiplied by a number that is not negative
abbrev pub multiplied_of : ℕ → OrdInt → OrdInt
multiplied_of n a = record { base = pos n *ℤ a.base; steps = multiplied_steps n a.steps }

-- the integer multiplied by a constant: by 0 it is the constant 0, and by a negative number the negation is multiplied
abbrev pub scaled_of : OrdInt → ℤ → OrdInt
scaled_of a (pos zero) = constant_of (pos 0)
scaled_of a (pos (suc n)) = multiplied_of (suc n) a
scaled_of a (negsuc n) = multiplied_of (suc n) (negated_of a)
