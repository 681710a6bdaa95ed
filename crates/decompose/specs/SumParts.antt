-- The parts of a sum: up to three members are one sum of two integers, and else a fresh integer behind the list stands
-- for the first two.
use Rattle.std.specs.Prelude.{ℕ, ◌-◌, List, [], ◌∷◌, ◌++◌, length, ℤ, pos}
use Rattle.order_ints.specs.declared.order_int.OrdInt.{OrdInt}
use Rattle.order_ints.specs.OrderMade.{constant_of, integer_of_values}
use Rattle.order_ints.specs.OrderChange.{negated_of, shifted_of}
use Rattle.core_forms.specs.declared.form.Core.TheVariants.{Sum3, Sum}
use Rattle.core_forms.specs.Sums.{sums_of}
use Rattle.part_base.specs.declared.parts.Parts.{Parts}
use Rattle.decompose.specs.LexParts.{alone}

-- the number less an integer
abbrev pub less_of : ℤ → OrdInt → OrdInt
less_of k a = shifted_of (negated_of a) k

-- the fresh integer that stands for the sum of two
abbrev pub fresh_of : ℕ → OrdInt → OrdInt → OrdInt
fresh_of next a b = integer_of_values (sums_of a b) next

abbrev pub sum_parts : ℕ → List OrdInt → ℤ → Parts
sum_parts next [] k = alone (Sum3 (constant_of (pos 0)) (constant_of (pos 0)) (constant_of k))
sum_parts next (a ∷ []) k = alone (Sum3 a (constant_of (pos 0)) (constant_of k))
sum_parts next (a ∷ b ∷ []) k = alone (Sum3 a (constant_of (pos 0)) (less_of k b))
sum_parts next (a ∷ b ∷ c ∷ []) k = alone (Sum3 a b (less_of k c))
sum_parts next (a ∷ b ∷ c ∷ d ∷ rest) k = record {
  cores = Sum3 a b (fresh_of next a b) ∷ Sum (c ∷ d ∷ rest ++ fresh_of next a b ∷ []) k ∷ [];
  fresh = length (sums_of a b) - 1;
}
