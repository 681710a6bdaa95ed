-- The parts of a count: the counts of two halves, and their sum.
use Rattle.std.specs.Prelude.{ℕ, ◌+◌, List, [], ◌∷◌, ◌++◌, take, drop, length, pos}
use Rattle.order_ints.specs.declared.atom.Atom.{Atom}
use Rattle.order_ints.specs.declared.order_int.OrdInt.{OrdInt}
use Rattle.order_ints.specs.OrderMade.{constant_of, integer_of_atom, unit_range_of}
use Rattle.core_cost.specs.Network.{half_up}
use Rattle.core_forms.specs.declared.form.Core.{Core}
use Rattle.core_forms.specs.declared.form.Core.TheVariants.{Sum3, Count}
use Rattle.part_base.specs.declared.parts.Parts.{Parts}

-- the number of true members of a half as an integer: of one member it is that member, and of more it is a fresh
-- integer
abbrev pub half_int : ℕ → List Atom → OrdInt
half_int next [] = constant_of (pos 0)
half_int next (l ∷ []) = integer_of_atom l
half_int next (l ∷ m ∷ ls) = unit_range_of (pos 0) next (length (l ∷ m ∷ ls))

-- the fresh variables of a half
abbrev pub half_fresh : List Atom → ℕ
half_fresh [] = 0
half_fresh (l ∷ []) = 0
half_fresh (l ∷ m ∷ ls) = length (l ∷ m ∷ ls)

-- the count of a half, where its integer is fresh
abbrev pub half_cores : ℕ → List Atom → List Core
half_cores next [] = []
half_cores next (l ∷ []) = []
half_cores next (l ∷ m ∷ ls) = Count (l ∷ m ∷ ls) (unit_range_of (pos 0) next (length (l ∷ m ∷ ls))) ∷ []

-- the counts of two halves, and their sum
abbrev pub halves_parts : ℕ → List Atom → List Atom → OrdInt → Parts
halves_parts next front back c = record {
  cores =
      half_cores next front
      ++ half_cores (next + half_fresh front) back
      ++ Sum3 (half_int next front) (half_int (next + half_fresh front) back) c ∷ [];
  fresh = half_fresh front + half_fresh back;
}

-- the halves of the members, of which the first is the longer one; no member and one member count themselves
abbrev pub count_parts : ℕ → List Atom → OrdInt → Parts
count_parts next ls c = halves_parts next (take (half_up (length ls)) ls) (drop (half_up (length ls)) ls) c
