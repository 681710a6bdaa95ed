-- The ranges of quotients and of dividends, as the code computes them from the ranges of the integers.
use Rattle.std.specs.Prelude.{◌^◌, ◌<◌, ◌&&◌, List, [], ◌∷◌, ◌++◌, pos, ◌+ℤ◌, ◌*ℤ◌}
use Rattle.std.specs.Prelude.{int_le, unsigned_abs}
use Rattle.order_ints.specs.declared.atom.Atom.{Atom}
use Rattle.order_ints.specs.declared.order_int.OrdInt.{OrdInt}
use Rattle.rule_base.specs.Pairs.{only_if}
use Rattle.rule_base.specs.Stated.{at_least, is_below}
use Rattle.arith_rules.specs.declared.ranges.Range.{Range}
use Rattle.arith_rules.specs.Links.{within}
use Rattle.arith_rules.specs.ProductRows.{floor_of}

-- what a quotient is at least and at most, where the dividend is in the first range and the divisor in the second, from
-- 1
abbrev pub quotients_of : Range → Range → Range
quotients_of x y = record { low = floor_of x.low y.high; high = floor_of x.high y.low }

-- a rest is from 0, below the divisor's greatest value, and at most the dividend's
abbrev pub rest_within : OrdInt → Range → Range → List (Atom × Atom)
rest_within r x y = at_least r (pos 0) ∷ is_below r y.high ∷ is_below r (x.high +ℤ pos 1) ∷ []

-- the equations of the ranges of a quotient and a rest
abbrev pub quotient_within : OrdInt → OrdInt → Range → Range → List (Atom × Atom)
quotient_within q r x y = within q (quotients_of x y).low (quotients_of x y).high ++ rest_within r x y

-- what a quotient times a divisor, plus a rest, is at least and at most, where none is below 0
abbrev pub dividends_of : Range → Range → Range → Range
dividends_of z y t = record { low = z.low *ℤ y.low +ℤ t.low; high = z.high *ℤ y.high +ℤ t.high }

-- both ends are below 2 ^ 100 in absolute value
abbrev pub HaveSmallDividends : Range → Range → Range → Type 0
HaveSmallDividends z y t =
    (unsigned_abs (z.low *ℤ y.low +ℤ t.low) < 2 ^ 100) × (unsigned_abs (z.high *ℤ y.high +ℤ t.high) < 2 ^ 100)

-- the equations of the range of a dividend
abbrev pub dividend_within : OrdInt → Range → Range → Range → List (Atom × Atom)
dividend_within a z y t =
    only_if (int_le (pos 0) z.low && int_le (pos 0) t.low) (within a (dividends_of z y t).low (dividends_of z y t).high)
