-- A valuation with other truth values for fresh variables.
use Rattle.std.specs.Prelude.{ℕ, ◌-◌, Bool, nat_lt, if◌then◌else◌}
use Rattle.order_ints.specs.Truth.{Valuation}

-- as the valuation is below next, and from next on the truth values that are given, the first one for next itself
abbrev pub with_fresh : ℕ → Valuation → (ℕ → Bool) → Valuation
with_fresh next σ fresh v = if nat_lt v next then σ v else fresh (v - next)
