-- What the members of a sum add up to.
use Rattle.std.specs.Prelude.{◌≡◌, ℕ, ℤ, ◌+◌, ◌≤◌, ◌+ℤ◌, pos, List, [], ◌∷◌}
use Rattle.order_ints.specs.declared.order_int.OrdInt.{OrdInt}
use Rattle.order_ints.specs.OrderRange.{weights}
use Rattle.core_forms.specs.declared.summands.Totals.{Totals}

-- the least values, added up
abbrev pub lows : List OrdInt → ℤ
lows [] = pos 0
lows (a ∷ ints) = a.base +ℤ lows ints

-- how far the greatest values are above the least ones, added up
abbrev pub widths : List OrdInt → ℕ
widths [] = 0
widths (a ∷ ints) = weights a.steps + widths ints

-- the members before the last one
abbrev pub before_last : List OrdInt → List OrdInt
before_last [] = []
before_last (a ∷ []) = []
before_last (a ∷ b ∷ ints) = a ∷ before_last (b ∷ ints)

-- no member's greatest value is further above its least one
abbrev pub AreNarrow : ℕ → List OrdInt → Type 0
AreNarrow most [] = Unit {0}
AreNarrow most (a ∷ ints) = (weights a.steps ≤ most) × AreNarrow most ints

-- these are the totals of integers, and no member before the last one is wider than is noted
pub record AreTotals (ints : List OrdInt) (totals : Totals) : Type 0 where
  pub low : totals.low ≡ lows ints
  pub width : totals.width ≡ widths ints
  pub narrow : AreNarrow totals.widest (before_last ints)
