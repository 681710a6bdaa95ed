-- The parts of a sum of two integers by a merge network: the units of both sides are merged, the odd places with the
-- odd places and the even places with the even places, and one row of comparators puts what comes of both in order.
use Rattle.std.specs.Prelude.{ℕ, zero, suc, ◌+◌, ◌*◌, ◌-◌, ◌/◌, min, List, [], ◌∷◌, ◌++◌}
use Rattle.std.specs.Prelude.{map, length, pos, ◌+ℤ◌}
use Rattle.order_ints.specs.Label.{own_labels, variable}
use Rattle.order_ints.specs.declared.atom.Atom.{Atom}
use Rattle.order_ints.specs.declared.atom.Atom.TheVariants.{True}
use Rattle.order_ints.specs.declared.order_int.OrdInt.{OrdInt}
use Rattle.order_ints.specs.OrderMade.{unit_range_of}
use Rattle.core_forms.specs.Sums.{gap_of}
use Rattle.core_forms.specs.declared.form.Core.{Core}
use Rattle.core_forms.specs.declared.form.Core.TheVariants.{Ladder, Comp, EqR, Sum3}
use Rattle.part_base.specs.declared.parts.Parts.{Parts}

-- an atom so many times
abbrev pub copies : ℕ → Atom → List Atom
copies zero l = []
copies (suc n) l = l ∷ copies n l

-- the units of steps: each step's atom once for each unit of g in its weight
abbrev pub units_of : ℕ → List (Atom × ℕ) → List Atom
units_of g [] = []
units_of g (s ∷ steps) = copies (s.1 / g) s.0 ++ units_of g steps

-- the first, third, fifth member and so on
abbrev pub odd_places : List Atom → List Atom
odd_places [] = []
odd_places (l ∷ []) = l ∷ []
odd_places (l ∷ m ∷ ls) = l ∷ odd_places ls

-- the second, fourth, sixth member and so on
abbrev pub even_places : List Atom → List Atom
even_places [] = []
even_places (l ∷ []) = []
even_places (l ∷ m ∷ ls) = m ∷ even_places ls

-- a step of one weight for each atom
abbrev pub weighted : ℕ → List Atom → List (Atom × ℕ)
weighted w ls = map (λ l. (l, w)) ls

-- the integer from 0 on with a step of weight 1 for each atom
abbrev pub unit_int : List Atom → OrdInt
unit_int ls = record { base = pos 0; steps = weighted 1 ls }

-- how many steps the sum of both sides' odd places has, and that of their even places
abbrev pub odd_steps : List Atom → List Atom → ℕ
odd_steps ls ms = length (odd_places ls) + length (odd_places ms)

abbrev pub even_steps : List Atom → List Atom → ℕ
even_steps ls ms = length (even_places ls) + length (even_places ms)

-- a row of comparators, with fresh variables from one on for what they give: one for the atoms at each place of both
-- lists
abbrev pub row_cores : ℕ → List Atom → List Atom → List Core
row_cores fresh [] es = []
row_cores fresh (d ∷ ds) [] = []
row_cores fresh (d ∷ ds) (e ∷ es) =
    Comp d e (variable fresh) (variable (fresh + 1)) ∷ row_cores (fresh + 2) ds es

-- what the row gives: of each comparator the disjunction and then the conjunction, and the atoms that have no partner.
-- In a network there is one such atom at most: where both sides have an even number of units it is the last even one,
-- and where both have an odd number the last odd one.
abbrev pub row_wires : ℕ → List Atom → List Atom → List Atom
row_wires fresh [] es = es
row_wires fresh (d ∷ ds) [] = d ∷ ds
row_wires fresh (d ∷ ds) (e ∷ es) = variable fresh ∷ variable (fresh + 1) ∷ row_wires (fresh + 2) ds es

-- The two sums have the fresh variables from next on, first n of them for the odd places and then k for the even
-- places. The first atom of the odd ones is the first of the whole; each further one is compared with the even one
-- before it.
abbrev pub further_odd : ℕ → ℕ → List Atom
further_odd next n = own_labels (next + 1) (n - 1)

abbrev pub all_even : ℕ → ℕ → ℕ → List Atom
all_even next n k = own_labels (next + n) k

abbrev pub comparators : ℕ → ℕ → ℕ → List Core
comparators next n k = row_cores (next + n + k) (further_odd next n) (all_even next n k)

abbrev pub wires : ℕ → ℕ → ℕ → List Atom
wires next n k = variable next ∷ row_wires (next + n + k) (further_odd next n) (all_even next n k)

-- the sum of both sides by its wires, each of which weighs g
abbrev pub merged_int : ℕ → OrdInt → OrdInt → ℕ → List Atom → List Atom → OrdInt
merged_int next a b g ls ms = record {
  base = a.base +ℤ b.base;
  steps = weighted g (wires next (odd_steps ls ms) (even_steps ls ms));
}

-- the sum of two lists of units, as a fresh integer from 0 on
abbrev pub unit_sum : ℕ → List Atom → List Atom → Core
unit_sum next ls ms = Sum3 (unit_int ls) (unit_int ms) (unit_range_of (pos 0) next (length ls + length ms))

-- the sums of the odd and of the even places
abbrev pub half_sums : ℕ → List Atom → List Atom → List Core
half_sums next ls ms =
    unit_sum next (odd_places ls) (odd_places ms)
    ∷ unit_sum (next + odd_steps ls ms) (even_places ls) (even_places ms)
    ∷ []

-- the parts, where a and b have the units ls and ms of g: both sides are ordered, the two sums, the row of comparators,
-- and what comes of it is c; there is a fresh variable for each step of the two sums, and two for each comparator
abbrev pub network_parts : ℕ → OrdInt → OrdInt → OrdInt → ℕ → List Atom → List Atom → Parts
network_parts next a b c g ls ms = record {
  cores =
      (Ladder a ∷ Ladder b ∷ half_sums next ls ms)
      ++ comparators next (odd_steps ls ms) (even_steps ls ms)
      ++ EqR True (merged_int next a b g ls ms) c ∷ [];
  fresh = odd_steps ls ms + even_steps ls ms + 2 * min (odd_steps ls ms - 1) (even_steps ls ms);
}

abbrev pub merge_parts : ℕ → OrdInt → OrdInt → OrdInt → Parts
merge_parts next a b c =
    network_parts next a b c (gap_of a b) (units_of (gap_of a b) a.steps) (units_of (gap_of a b) b.steps)
