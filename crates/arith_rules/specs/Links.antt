-- Equations that state the range of an integer, and that link the values of one integer with those of another.
use Rattle.std.specs.Prelude.{Bool, List, [], ◌∷◌, map, filter, ℤ, pos, ◌+ℤ◌}
use Rattle.order_ints.specs.declared.atom.Atom.{Atom}
use Rattle.order_ints.specs.declared.order_int.OrdInt.{OrdInt}
use Rattle.order_ints.specs.Truth.{not_atom}
use Rattle.order_ints.specs.OrderLevels.{values_of, at_of}
use Rattle.rule_base.specs.Stated.{at_least, is_below}

-- the integer is from one number to another
abbrev pub within : OrdInt → ℤ → ℤ → List (Atom × Atom)
within a low high = at_least a low ∷ is_below a (high +ℤ pos 1) ∷ []

-- for each value v of a: a is at least v exactly where b is at least what v is linked with
abbrev pub linked : (ℤ → ℤ) → OrdInt → OrdInt → List (Atom × Atom)
linked link a b = map (λ v. (at_of a v, at_of b (link v))) (values_of a)

-- the same with the atom of b first
abbrev pub linked_back : (ℤ → ℤ) → OrdInt → OrdInt → List (Atom × Atom)
linked_back link a b = map (λ v. (at_of b (link v), at_of a v)) (values_of a)

-- a is at least v exactly where b is below what v is linked with
abbrev pub opposed : (ℤ → ℤ) → OrdInt → OrdInt → List (Atom × Atom)
opposed link a b = map (λ v. (at_of a v, not_atom (at_of b (link v)))) (values_of a)

-- a is at most v exactly where b is at least what v is linked with
abbrev pub opposed_above : (ℤ → ℤ) → OrdInt → OrdInt → List (Atom × Atom)
opposed_above link a b = map (λ v. (at_of b (link v), not_atom (at_of a (v +ℤ pos 1)))) (values_of a)

-- for each value of a that passes a test: a is at least that value exactly where b is
abbrev pub alike_where : (ℤ → Bool) → OrdInt → OrdInt → List (Atom × Atom)
alike_where test a b = map (λ v. (at_of a v, at_of b v)) (filter test (values_of a))

-- the same with the atom of b first
abbrev pub alike_back : (ℤ → Bool) → OrdInt → OrdInt → List (Atom × Atom)
alike_back test a b = map (λ v. (at_of b v, at_of a v)) (filter test (values_of a))

-- an equation with its two atoms exchanged
abbrev pub turned : Atom × Atom → Atom × Atom
turned p = (p.1, p.0)
