-- The ranges of products and of quotients, as the code computes them from the ranges of the integers.
use Rattle.std.specs.Prelude.{◌^◌, ◌<◌, ◌&&◌, Bool, List, pos, ◌*ℤ◌, int_le, unsigned_abs}
use Rattle.std.specs.Int.{int_min, int_max}
use Rattle.order_ints.specs.declared.atom.Atom.{Atom}
use Rattle.order_ints.specs.declared.order_int.OrdInt.{OrdInt}
use Rattle.rule_base.specs.Pairs.{only_if}
use Rattle.arith_rules.specs.declared.ranges.Range.{Range}
use Rattle.arith_rules.specs.Links.{within}
use Rattle.arith_rules.specs.ProductRows.{floor_of, ceiling_of}

-- the least and the greatest of the products of an end of one range and an end of another
abbrev pub products_of : Range → Range → Range
products_of x y = record {
  low = int_min (int_min (x.low *ℤ y.low) (x.low *ℤ y.high)) (int_min (x.high *ℤ y.low) (x.high *ℤ y.high));
  high = int_max (int_max (x.low *ℤ y.low) (x.low *ℤ y.high)) (int_max (x.high *ℤ y.low) (x.high *ℤ y.high));
}

-- each of these four products is below 2 ^ 100 in absolute value
abbrev pub HaveSmallCorners : Range → Range → Type 0
HaveSmallCorners x y =
    (unsigned_abs (x.low *ℤ y.low) < 2 ^ 100) × (unsigned_abs (x.low *ℤ y.high) < 2 ^ 100)
    × (unsigned_abs (x.high *ℤ y.low) < 2 ^ 100) × (unsigned_abs (x.high *ℤ y.high) < 2 ^ 100)

-- what a factor from 0 is at least and at most, where the other is in the first range, from 1, and the product in the
-- second
abbrev pub factors_of : Range → Range → Range
factors_of y z = record { low = ceiling_of z.low y.high; high = floor_of z.high y.low }

-- two factors and their product have values from 0, and the second factor from 1
abbrev pub are_unsigned : Range → Range → Range → Bool
are_unsigned x y z = int_le (pos 0) x.low && (int_le (pos 1) y.low && int_le (pos 0) z.low)

-- the equations of a factor with the first range
abbrev pub factor_within : OrdInt → Range → Range → Range → List (Atom × Atom)
factor_within a x y z = only_if (are_unsigned x y z) (within a (factors_of y z).low (factors_of y z).high)
