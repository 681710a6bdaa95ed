-- The equations that a product and a division state.
use Rattle.std.specs.Prelude.{◌&&◌, List, [], ◌∷◌, ◌++◌, ℤ, pos, neg_ℤ, ◌+ℤ◌, ◌*ℤ◌}
use Rattle.std.specs.Prelude.{int_le, int_lt}
use Rattle.std.specs.Int.{int_min, int_max, int_div_euclid}
use Rattle.order_ints.specs.declared.atom.Atom.{Atom}
use Rattle.order_ints.specs.declared.order_int.OrdInt.{OrdInt}
use Rattle.order_ints.specs.OrderRange.{low_of, high_of}
use Rattle.rule_base.specs.Pairs.{only_if}
use Rattle.rule_base.specs.Stated.{at_least, is_below}
use Rattle.rule_base.specs.Constant.{is_constant}
use Rattle.arith_rules.specs.Links.{within, linked, linked_back, opposed, opposed_above}

-- the quotient by a divisor from 1, rounded down, and rounded up
abbrev pub floor_of : ℤ → ℤ → ℤ
floor_of v divisor = int_div_euclid v divisor

abbrev pub ceiling_of : ℤ → ℤ → ℤ
ceiling_of v divisor = neg_ℤ (int_div_euclid (neg_ℤ v) divisor)

-- the least and the greatest of the products of an end of a's range and an end of b's
abbrev pub least_product : OrdInt → OrdInt → ℤ
least_product a b =
    int_min (int_min (low_of a *ℤ low_of b) (low_of a *ℤ high_of b))
    (int_min (high_of a *ℤ low_of b) (high_of a *ℤ high_of b))

abbrev pub greatest_product : OrdInt → OrdInt → ℤ
greatest_product a b =
    int_max (int_max (low_of a *ℤ low_of b) (low_of a *ℤ high_of b))
    (int_max (high_of a *ℤ low_of b) (high_of a *ℤ high_of b))

-- a times b is c, where none is below 0, and b not below 1: a is at least the least value of c by the greatest of b,
-- and at most the greatest value of c by the least of b
abbrev pub factor_equations : OrdInt → OrdInt → OrdInt → List (Atom × Atom)
factor_equations a b c =
    only_if (int_le (pos 0) (low_of a) && (int_le (pos 1) (low_of b) && int_le (pos 0) (low_of c)))
    (within a (ceiling_of (low_of c) (high_of b)) (floor_of (high_of c) (low_of b)))

-- k times b is c, for k above 0: for each value of b, and for each value of c, with the atom of c first
abbrev pub multiple_equations : ℤ → OrdInt → OrdInt → List (Atom × Atom)
multiple_equations k b c = linked_back (λ v. k *ℤ v) b c ++ linked (λ w. ceiling_of w k) c b

-- k times b is c, for k below 0: c goes down as b goes up
abbrev pub negative_equations : ℤ → OrdInt → OrdInt → List (Atom × Atom)
negative_equations k b c = opposed_above (λ v. k *ℤ v) b c
    ++ opposed (λ w. floor_of (neg_ℤ w) (neg_ℤ k) +ℤ pos 1) c b

-- k times b is c
abbrev pub scaled_equations : ℤ → OrdInt → OrdInt → List (Atom × Atom)
scaled_equations k b c =
    only_if (int_lt (pos 0) k) (multiple_equations k b c) ++ only_if (int_lt k (pos 0)) (negative_equations k b c)

-- a times b is c: what each is at least and at most
abbrev pub prod_ranges : OrdInt → OrdInt → OrdInt → List (Atom × Atom)
prod_ranges a b c =
    within c (least_product a b) (greatest_product a b) ++ factor_equations a b c ++ factor_equations b a c

-- and where a factor is constant, the other and c move together or against each other
abbrev pub prod_equations : OrdInt → OrdInt → OrdInt → List (Atom × Atom)
prod_equations a b c =
    prod_ranges a b c
    ++ only_if (is_constant a) (scaled_equations (low_of a) b c)
    ++ only_if (is_constant b) (scaled_equations (low_of b) a c)

-- a is b times q plus r, where r is from 0 and below b: what q and r are at least and at most
abbrev pub quotient_equations : OrdInt → OrdInt → OrdInt → OrdInt → List (Atom × Atom)
quotient_equations a b q r =
    within q (floor_of (low_of a) (high_of b)) (floor_of (high_of a) (low_of b))
    ++ at_least r (pos 0) ∷ is_below r (high_of b) ∷ is_below r (high_of a +ℤ pos 1) ∷ []

-- and what a is, where q and r are not below 0
abbrev pub dividend_equations : OrdInt → OrdInt → OrdInt → OrdInt → List (Atom × Atom)
dividend_equations a b q r =
    only_if (int_le (pos 0) (low_of q) && int_le (pos 0) (low_of r))
    (within a (low_of q *ℤ low_of b +ℤ low_of r) (high_of q *ℤ high_of b +ℤ high_of r))

abbrev pub div_mod_equations : OrdInt → OrdInt → OrdInt → OrdInt → List (Atom × Atom)
div_mod_equations a b q r = quotient_equations a b q r ++ dividend_equations a b q r
