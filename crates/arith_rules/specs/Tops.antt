-- The greatest and the second greatest of the members' greatest values, and the equations of a greatest member told by
-- them.
use Rattle.std.specs.Prelude.{◌^◌, ◌<◌, List, [], ◌∷◌, ◌++◌, map, filter, ℤ, pos, neg_ℤ, int_le}
use Rattle.std.specs.Prelude.{int_lt, unsigned_abs, if◌then◌else◌}
use Rattle.order_ints.specs.declared.atom.Atom.{Atom}
use Rattle.order_ints.specs.declared.atom.Atom.TheVariants.{False}
use Rattle.order_ints.specs.declared.order_int.OrdInt.{OrdInt}
use Rattle.order_ints.specs.OrderRange.{high_of}
use Rattle.order_ints.specs.OrderLevels.{values_of, at_of}
use Rattle.rule_base.specs.Pairs.{only_if}
use Rattle.arith_rules.specs.declared.maxima.Tops.{Tops}
use Rattle.arith_rules.specs.Links.{alike_where, alike_back}

-- before any member: a number below each value
abbrev pub no_tops : Tops
no_tops = record { first = neg_ℤ (pos (2 ^ 100)); second = neg_ℤ (pos (2 ^ 100)) }

-- the two greatest of two numbers and one more
abbrev pub with_top : Tops → ℤ → Tops
with_top tops v =
    if int_le v tops.second then tops
    else if int_le v tops.first then record { first = tops.first; second = v }
    else record { first = v; second = tops.first }

-- and of two numbers and the greatest values of integers
abbrev pub tops_from : Tops → List OrdInt → Tops
tops_from tops [] = tops
tops_from tops (a ∷ ints) = tops_from (with_top tops (high_of a)) ints

abbrev pub tops_of : List OrdInt → Tops
tops_of ints = tops_from no_tops ints

-- both are below 2 ^ 110 in absolute value
abbrev pub AreSmall : Tops → Type 0
AreSmall tops = (unsigned_abs tops.first < 2 ^ 110) × (unsigned_abs tops.second < 2 ^ 110)

-- c is below each of its values above a number
abbrev pub false_above : ℤ → OrdInt → List (Atom × Atom)
false_above n c = map (λ v. (at_of c v, False)) (filter (int_lt n) (values_of c))

-- a member whose greatest value is above a number is linked with c at the values above it
abbrev pub leader_above : ℤ → OrdInt → OrdInt → List (Atom × Atom)
leader_above n c a = only_if (int_lt n (high_of a)) (alike_where (int_lt n) c a ++ alike_back (int_lt n) a c)

abbrev pub leaders_above : ℤ → OrdInt → List OrdInt → List (Atom × Atom)
leaders_above n c [] = []
leaders_above n c (a ∷ ints) = leader_above n c a ++ leaders_above n c ints
