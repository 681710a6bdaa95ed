-- Ranges of numbers, as the code holds them.
use Rattle.std.specs.Prelude.{◌^◌, ◌<◌, ℕ, ℤ, pos, ◌+ℤ◌, ◌-ℤ◌, unsigned_abs, List}
use Rattle.order_ints.specs.declared.order_int.OrdInt.{OrdInt}
use Rattle.order_ints.specs.OrderRange.{low_of, high_of}
use Rattle.arith_rules.specs.declared.ranges.Range.{Range}
use Rattle.arith_rules.specs.SumRows.{lows_of, highs_of}

-- the least and the greatest value of an integer
abbrev pub range_of : OrdInt → Range
range_of a = record { low = low_of a; high = high_of a }

-- those of integers, added up
abbrev pub ranges_of : List OrdInt → Range
ranges_of ints = record { low = lows_of ints; high = highs_of ints }

-- what two values in ranges can add up to
abbrev pub sum_of : Range → Range → Range
sum_of x y = record { low = x.low +ℤ y.low; high = x.high +ℤ y.high }

-- what a value in the second range leaves of one in the first
abbrev pub rest_of : Range → Range → Range
rest_of z y = record { low = z.low -ℤ y.high; high = z.high -ℤ y.low }

-- what a member in the first range has of k, where all members together are in the second
abbrev pub share_of : Range → Range → ℤ → Range
share_of own all k = record { low = k -ℤ (all.high -ℤ own.high); high = k -ℤ (all.low -ℤ own.low) }

-- the numbers from 0
abbrev pub up_to : ℕ → Range
up_to n = record { low = pos 0; high = pos n }

-- both ends are below 2 ^ 110 in absolute value
abbrev pub IsSmall : Range → Type 0
IsSmall r = (unsigned_abs r.low < 2 ^ 110) × (unsigned_abs r.high < 2 ^ 110)
