-- When a core is well formed: its lists have the lengths that its form wants, and what its meaning computes stays
-- within the limits of the numbers.
use Rattle.std.specs.Prelude.{◌≡◌, ℕ, ◌+◌, ◌^◌, ◌<◌, max, List, [], ◌∷◌, length, Contains}
use Rattle.std.specs.Prelude.{ℤ, pos, ◌+ℤ◌, ◌*ℤ◌, ◌≤ℤ◌, unsigned_abs}
use Rattle.order_ints.specs.declared.order_int.OrdInt.{OrdInt}
use Rattle.order_ints.specs.OrderRange.{low_of, high_of, IsBounded, AreRising}
use Rattle.order_ints.specs.OrderLevels.{values_of}
use Rattle.core_forms.specs.declared.form.Core.{Core}
use Rattle.core_forms.specs.declared.form.Core.TheVariants.{Ladder, Clause, Parity, Conj, Comp, LeqR, EqR, Sum3, Count}
use Rattle.core_forms.specs.declared.form.Core.TheVariants.{Sum, Max, AllDiff, Amo, Prod, DivMod, Lex}

-- an integer's values are below 2 ^ 100 in absolute value, and each step raises the value
abbrev pub IsSound : OrdInt → Type 0
IsSound a = IsBounded a × AreRising a.steps

abbrev pub AreSound : List OrdInt → Type 0
AreSound [] = Unit {0}
AreSound (a ∷ ints) = IsSound a × AreSound ints

-- the greatest absolute value of an integer, which is that of its least value or that of its greatest
abbrev pub greatest_abs : OrdInt → ℕ
greatest_abs a = max (unsigned_abs (low_of a)) (unsigned_abs (high_of a))

-- the greatest absolute values of integers, added up
abbrev pub abs_total : List OrdInt → ℕ
abs_total [] = 0
abs_total (a ∷ ints) = greatest_abs a + abs_total ints

-- each product of a value of one and a value of the other is below 2 ^ 100 in absolute value
abbrev pub HasSmallProducts : OrdInt → OrdInt → Type 0
HasSmallProducts a b =
    (v w : ℤ) → Contains (values_of a) v → Contains (values_of b) w → unsigned_abs (v *ℤ w) < 2 ^ 100

-- each product of a value of the first and one of the second, plus any value of the third, is so
abbrev pub HasSmallDivisions : OrdInt → OrdInt → OrdInt → Type 0
HasSmallDivisions b q r =
    (v w t : ℤ) → Contains (values_of b) v → Contains (values_of q) w → Contains (values_of r) t
    → unsigned_abs (v *ℤ w +ℤ t) < 2 ^ 100

-- a core is well formed; each of its integers is sound besides
abbrev pub IsWellFormed : Core → Type 0
IsWellFormed (Ladder a) = IsSound a
IsWellFormed (Clause ls) = Unit {0}
IsWellFormed (Parity ls odd) = Unit {0}
IsWellFormed (Conj r ls) = Unit {0}
IsWellFormed (Comp a b hi lo) = Unit {0}
IsWellFormed (LeqR r a b) = IsSound a × IsSound b
IsWellFormed (EqR r a b) = IsSound a × IsSound b
IsWellFormed (Sum3 a b c) = IsSound a × IsSound b × IsSound c × (greatest_abs a + greatest_abs b < 2 ^ 100)
IsWellFormed (Count ls c) = IsSound c × (length ls + greatest_abs c < 2 ^ 100)
IsWellFormed (Sum ints k) = AreSound ints × (abs_total ints + unsigned_abs k < 2 ^ 100)
IsWellFormed (Max ints c) = AreSound ints × IsSound c × (0 < length ints)
IsWellFormed (AllDiff ints cs) = AreSound ints × (length ints ≡ length cs)
IsWellFormed (Amo ls) = Unit {0}
IsWellFormed (Prod a b c) = IsSound a × IsSound b × IsSound c × HasSmallProducts a b
IsWellFormed (DivMod a b q r) =
    IsSound a × IsSound b × IsSound q × IsSound r × (pos 0 ≤ℤ low_of a) × (pos 1 ≤ℤ low_of b)
    × HasSmallDivisions b q r
IsWellFormed (Lex r strict front back) = AreSound front × AreSound back × (length front ≡ length back)
