-- Comparisons, sums, and operations on whole numbers.
use Rattle.std.specs.Prelude.{◌≡◌, ℤ, pos, ◌+ℤ◌, ◌-ℤ◌, ◌*ℤ◌, ◌≤ℤ◌, ◌<ℤ◌, int_lt}
use Rattle.std.specs.Prelude.{int_le, Bool, true, false, not, ◌&&◌, ◌||◌, List, [], ◌∷◌, IsTrue}
use Rattle.std.specs.Prelude.{if◌then◌else◌}
use Rattle.std.specs.Int.{int_rem_euclid}
use Rattle.std.specs.Ordering.{int_eq}
use Rattle.model_meaning.specs.declared.statement.Relation.{Relation}
use Rattle.model_meaning.specs.declared.statement.Relation.TheVariants.{Leq, Geq, Eq, Lt, Gt, Neq}
use Rattle.model_meaning.specs.declared.statement.Arithmetic.{Arithmetic}
use Rattle.model_meaning.specs.declared.statement.Arithmetic.TheVariants.{Plus, Times, Div, Mod, Max, Min}
use Rattle.model_meaning.specs.declared.statement.Aggregate.{Aggregate}
use Rattle.model_meaning.specs.declared.statement.Aggregate.TheVariants as aggregate

-- whether one number stands in a relation to another
abbrev pub relates : Relation → ℤ → ℤ → Bool
relates Leq a b = int_le a b
relates Geq a b = int_le b a
relates Eq a b = int_eq a b
relates Lt a b = int_lt a b
relates Gt a b = int_lt b a
relates Neq a b = not (int_eq a b)

-- the sum of a list
abbrev pub total : List ℤ → ℤ
total [] = pos 0
total (x ∷ xs) = x +ℤ total xs

-- the sum of the coefficients of the true members
abbrev pub weight_of_true : List ℤ → List Bool → ℤ
weight_of_true [] xs = pos 0
weight_of_true (c ∷ cs) [] = pos 0
weight_of_true (c ∷ cs) (x ∷ xs) = (if x then c else pos 0) +ℤ weight_of_true cs xs

-- the sum of coefficient times member
abbrev pub linear_sum : List ℤ → List ℤ → ℤ
linear_sum [] xs = pos 0
linear_sum (c ∷ cs) [] = pos 0
linear_sum (c ∷ cs) (x ∷ xs) = c *ℤ x +ℤ linear_sum cs xs

-- a number is a member of a list
abbrev pub is_member : ℤ → List ℤ → Bool
is_member m [] = false
is_member m (x ∷ xs) = int_eq x m || is_member m xs

-- a number is not exceeded by a list
abbrev pub not_exceeded : ℤ → List ℤ → Bool
not_exceeded m [] = true
not_exceeded m (x ∷ xs) = int_le x m && not_exceeded m xs

-- no member of a list is below a number
abbrev pub not_undercut : ℤ → List ℤ → Bool
not_undercut m [] = true
not_undercut m (x ∷ xs) = int_le m x && not_undercut m xs

-- the greatest member: it is a member, and it is not exceeded
abbrev pub is_greatest : ℤ → List ℤ → Bool
is_greatest m xs = is_member m xs && not_exceeded m xs

-- the least member: it is a member, and no member is below it
abbrev pub is_least : ℤ → List ℤ → Bool
is_least m xs = is_member m xs && not_undercut m xs

-- k is the quotient of i by j, rounded down: what i has beyond j times k is a remainder, at least 0 and
-- less than j
abbrev pub IsQuotient : ℤ → ℤ → ℤ → Type 0
IsQuotient i j k = (r : ℤ) × (i ≡ j *ℤ k +ℤ r) × (pos 0 ≤ℤ r) × (r <ℤ j)

-- k is the remainder of that quotient
abbrev pub IsRemainder : ℤ → ℤ → ℤ → Type 0
IsRemainder i j k = (q : ℤ) × (i ≡ j *ℤ q +ℤ k) × (pos 0 ≤ℤ k) × (k <ℤ j)

-- k is what an operation makes of i and j
abbrev pub Gives : Arithmetic → ℤ → ℤ → ℤ → Type 0
Gives Plus i j k = k ≡ i +ℤ j
Gives Times i j k = k ≡ i *ℤ j
Gives Div i j k = IsQuotient i j k
Gives Mod i j k = IsRemainder i j k
Gives Max i j k = IsTrue (is_greatest k (i ∷ j ∷ []))
Gives Min i j k = IsTrue (is_least k (i ∷ j ∷ []))

-- i is the sum, the greatest or the least member of a list
abbrev pub IsAggregate : Aggregate → List ℤ → ℤ → Type 0
IsAggregate aggregate.Plus xs i = i ≡ total xs
IsAggregate aggregate.Max xs i = IsTrue (is_greatest i xs)
IsAggregate aggregate.Min xs i = IsTrue (is_least i xs)

-- The same as tests.

-- whether k is the quotient: i - j * k is a remainder
abbrev pub is_quotient : ℤ → ℤ → ℤ → Bool
is_quotient i j k = int_le (pos 0) (i -ℤ j *ℤ k) && int_lt (i -ℤ j *ℤ k) j

-- whether k is the remainder
abbrev pub is_remainder : ℤ → ℤ → ℤ → Bool
is_remainder i j k = int_lt (pos 0) j && int_eq k (int_rem_euclid i j)

-- whether k is what an operation makes of i and j
abbrev pub gives : Arithmetic → ℤ → ℤ → ℤ → Bool
gives Plus i j k = int_eq k (i +ℤ j)
gives Times i j k = int_eq k (i *ℤ j)
gives Div i j k = is_quotient i j k
gives Mod i j k = is_remainder i j k
gives Max i j k = is_greatest k (i ∷ j ∷ [])
gives Min i j k = is_least k (i ∷ j ∷ [])

-- whether i is the sum, the greatest or the least member
abbrev pub is_aggregate : Aggregate → List ℤ → ℤ → Bool
is_aggregate aggregate.Plus xs i = int_eq i (total xs)
is_aggregate aggregate.Max xs i = is_greatest i xs
is_aggregate aggregate.Min xs i = is_least i xs
