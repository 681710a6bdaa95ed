-- The values of a fresh integer that stands for the sum of two integers.
use Rattle.std.specs.Prelude.{ℕ, zero, suc, ◌-◌, ◌/◌, ◌+◌, nat_le, List, [], ◌∷◌, ◌++◌, map}
use Rattle.std.specs.Prelude.{ℤ, pos, ◌+ℤ◌, int_lt, if◌then◌else◌}
use Rattle.std.specs.Ordering.{int_eq}
use Rattle.order_ints.specs.declared.order_int.OrdInt.{OrdInt}
use Rattle.order_ints.specs.OrderRange.{low_of, weights}
use Rattle.order_ints.specs.OrderLevels.{values_of}
use Rattle.order_ints.specs.Placing.{placed_by, in_order_by}
use Rattle.core_cost.specs.Divisor.{common_divisor_of}
use Rattle.core_cost.specs.Arithmetic.{pairs_of_values}
use Rattle.core_forms.specs.Shapes.{steps_of, divisor_of}

-- ascending numbers with one more at its place, unless it is there
abbrev pub placed : ℤ → List ℤ → List ℤ
placed v ws = placed_by int_eq int_lt v ws

-- the different numbers of a list, ascending
abbrev pub ascending : List ℤ → List ℤ
ascending vs = in_order_by int_eq int_lt vs

-- each of the first numbers and each of the second ones, added up
abbrev pub pair_sums : List ℤ → List ℤ → List ℤ
pair_sums [] ws = []
pair_sums (v ∷ vs) ws = map (λ w. v +ℤ w) ws ++ pair_sums vs ws

-- so many numbers from one on, each above that before by one gap
abbrev pub spaced : ℤ → ℕ → ℕ → List ℤ
spaced low gap zero = []
spaced low gap (suc count) = low ∷ spaced (low +ℤ pos gap) gap count

-- the greatest common divisor of the weights of both
abbrev pub gap_of : OrdInt → OrdInt → ℕ
gap_of a b = common_divisor_of (divisor_of a.steps) (divisor_of b.steps)

-- how many gaps lie between the least sum and the greatest; without any step, none
abbrev pub gaps_of : OrdInt → OrdInt → ℕ
gaps_of a b = (weights a.steps + weights b.steps) / gap_of a b

-- the different sums of a value of the one and a value of the other, ascending, where the pairs of values are no more
-- than the numbers between the least sum and the greatest that are apart from the least by a multiple of the common
-- divisor; and otherwise these numbers
abbrev pub sums_of : OrdInt → OrdInt → List ℤ
sums_of a b =
    if nat_le (pairs_of_values (steps_of a) (steps_of b) - 1) (gaps_of a b)
    then ascending (pair_sums (values_of a) (values_of b))
    else spaced (low_of a +ℤ low_of b) (gap_of a b) (gaps_of a b + 1)
