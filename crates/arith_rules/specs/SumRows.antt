-- The equations that a sum of two integers, a count and a sum of members state.
use Rattle.std.specs.Prelude.{not, List, [], ◌∷◌, ◌++◌, length, ℤ, pos, ◌+ℤ◌, ◌-ℤ◌, ◌≤ℤ◌}
use Rattle.std.specs.Ordering.{int_eq}
use Rattle.order_ints.specs.declared.atom.Atom.{Atom}
use Rattle.order_ints.specs.declared.atom.Atom.TheVariants.{True, False}
use Rattle.order_ints.specs.declared.order_int.OrdInt.{OrdInt}
use Rattle.order_ints.specs.OrderRange.{low_of, high_of}
use Rattle.rule_base.specs.Pairs.{only_if}
use Rattle.rule_base.specs.Stated.{all_equal}
use Rattle.rule_base.specs.Constant.{is_constant}
use Rattle.arith_rules.specs.Links.{within, linked, linked_back, opposed, opposed_above}

-- a and b, added up, are c: each is from the least to the greatest value that the ranges of the two others leave it
abbrev pub sum3_ranges : OrdInt → OrdInt → OrdInt → List (Atom × Atom)
sum3_ranges a b c =
    within c (low_of a +ℤ low_of b) (high_of a +ℤ high_of b)
    ++ within a (low_of c -ℤ high_of b) (high_of c -ℤ low_of b)
    ++ within b (low_of c -ℤ high_of a) (high_of c -ℤ low_of a)

-- k and b, added up, are c: b is at least v exactly where c is at least v and k, for each value v of b, and for each
-- value of c less k
abbrev pub raised_equations : ℤ → OrdInt → OrdInt → List (Atom × Atom)
raised_equations k b c = linked (λ v. v +ℤ k) b c ++ linked_back (λ w. w -ℤ k) c b

-- a and b, added up, are k: a is at least v exactly where b is at most k less v
abbrev pub mirrored_equations : ℤ → OrdInt → OrdInt → List (Atom × Atom)
mirrored_equations k a b = opposed (λ v. k -ℤ v +ℤ pos 1) a b ++ opposed_above (λ w. k -ℤ w) b a

-- where one of the three is constant, the two others move together or against each other
abbrev pub sum3_constants : OrdInt → OrdInt → OrdInt → List (Atom × Atom)
sum3_constants a b c =
    only_if (is_constant a) (raised_equations (low_of a) b c)
    ++ only_if (is_constant b) (raised_equations (low_of b) a c)
    ++ only_if (is_constant c) (mirrored_equations (low_of c) a b)

abbrev pub sum3_equations : OrdInt → OrdInt → OrdInt → List (Atom × Atom)
sum3_equations a b c = sum3_ranges a b c ++ sum3_constants a b c

-- c is the number of true members: it is from 0 to their number; where it cannot be less than all of them, each is
-- true, and where it cannot be above 0, each is false
abbrev pub count_equations : List Atom → OrdInt → List (Atom × Atom)
count_equations ls c =
    within c (pos 0) (pos (length ls))
    ++ only_if (int_eq (low_of c) (pos (length ls))) (all_equal ls True)
    ++ only_if (int_eq (high_of c) (pos 0)) (all_equal ls False)

-- the least values of integers, added up, and the greatest ones
abbrev pub lows_of : List OrdInt → ℤ
lows_of [] = pos 0
lows_of (a ∷ ints) = low_of a +ℤ lows_of ints

abbrev pub highs_of : List OrdInt → ℤ
highs_of [] = pos 0
highs_of (a ∷ ints) = high_of a +ℤ highs_of ints

-- of integers that make up k together with others, where the least values of all add up to one number and the greatest
-- to another: each is at least k less the greatest values of all others, and at most k less their least values
abbrev pub shares : ℤ → ℤ → ℤ → List OrdInt → List (Atom × Atom)
shares k lows highs [] = []
shares k lows highs (a ∷ ints) =
    within a (k -ℤ (highs -ℤ high_of a)) (k -ℤ (lows -ℤ low_of a)) ++ shares k lows highs ints

-- what is stated so of the last one of integers
abbrev pub last_share : ℤ → ℤ → ℤ → List OrdInt → List (Atom × Atom)
last_share k lows highs [] = []
last_share k lows highs (a ∷ []) = within a (k -ℤ (highs -ℤ high_of a)) (k -ℤ (lows -ℤ low_of a))
last_share k lows highs (a ∷ b ∷ ints) = last_share k lows highs (b ∷ ints)

-- the others leave each integer all its values: its own range is within what they leave it
abbrev pub HaveAllValues : ℤ → ℤ → ℤ → List OrdInt → Type 0
HaveAllValues k lows highs [] = Unit {0}
HaveAllValues k lows highs (a ∷ ints) =
    ((k -ℤ (highs -ℤ high_of a)) ≤ℤ low_of a) × (high_of a ≤ℤ (k -ℤ (lows -ℤ low_of a)))
    × HaveAllValues k lows highs ints

-- the members, added up, are k: without members there is a contradiction unless k is 0
abbrev pub sum_equations : List OrdInt → ℤ → List (Atom × Atom)
sum_equations [] k = only_if (not (int_eq k (pos 0))) ((True, False) ∷ [])
sum_equations (a ∷ ints) k = shares k (lows_of (a ∷ ints)) (highs_of (a ∷ ints)) (a ∷ ints)
