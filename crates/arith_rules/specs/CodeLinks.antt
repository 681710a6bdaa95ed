-- What the links of the code are, and which fit its numbers.
use Rattle.std.specs.Prelude.{◌^◌, ◌<◌, ℤ, pos, neg_ℤ, ◌+ℤ◌, ◌-ℤ◌, ◌*ℤ◌, ◌≤ℤ◌}
use Rattle.std.specs.Prelude.{◌<ℤ◌, unsigned_abs}
use Rattle.std.specs.List.{AllByRecursion}
use Rattle.order_ints.specs.declared.order_int.OrdInt.{OrdInt}
use Rattle.order_ints.specs.OrderLevels.{levels_of}
use Rattle.arith_rules.specs.declared.links.Link.{Link}
use Rattle.arith_rules.specs.declared.links.Link.TheVariants.{Plus, Minus, From, Above, Times, Ceiling, Over}
use Rattle.arith_rules.specs.ProductRows.{floor_of, ceiling_of}

-- what a value is linked with
abbrev pub link_of : Link → ℤ → ℤ
link_of (Plus k) v = v +ℤ k
link_of (Minus k) v = v -ℤ k
link_of (From k) v = k -ℤ v
link_of (Above k) v = k -ℤ v +ℤ pos 1
link_of (Times k) v = k *ℤ v
link_of (Ceiling k) v = ceiling_of v k
link_of (Over k) v = floor_of (neg_ℤ v) (neg_ℤ k) +ℤ pos 1

-- it fits the numbers of the code
abbrev pub LinkFits : Link → ℤ → Type 0
LinkFits (Plus k) v = unsigned_abs k < 2 ^ 110
LinkFits (Minus k) v = unsigned_abs k < 2 ^ 110
LinkFits (From k) v = unsigned_abs k < 2 ^ 110
LinkFits (Above k) v = unsigned_abs k < 2 ^ 110
LinkFits (Times k) v = unsigned_abs (k *ℤ v) < 2 ^ 100
LinkFits (Ceiling k) v = pos 1 ≤ℤ k
LinkFits (Over k) v = (k <ℤ pos 0) × (unsigned_abs k < 2 ^ 110)

-- at each value of an integer, which is below 2 ^ 100 in absolute value
abbrev pub LinkFitsAll : Link → OrdInt → Type 0
LinkFitsAll link a = AllByRecursion (λ level. LinkFits link level.0) (levels_of a)

-- k times each value of an integer is below 2 ^ 100 in absolute value
abbrev pub HasSmallMultiples : ℤ → OrdInt → Type 0
HasSmallMultiples k a = AllByRecursion (λ level. unsigned_abs (k *ℤ level.0) < 2 ^ 100) (levels_of a)
