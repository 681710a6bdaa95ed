-- The costs of the four sums at one depth of a network.
use Rattle.std.specs.Prelude.{◌≡◌, ℕ, ◌+◌, Bool, if◌then◌else◌}
use Rattle.core_cost.specs.declared.network.Neighbours.{Neighbours}
use Rattle.core_cost.specs.Saturated.{saturated}
use Rattle.core_cost.specs.Network.{cost_of_unit_sum}

-- the costs of the sums of n or n + 1 and m or m + 1 steps of weight 1
pub record AreAround (n m : ℕ) (costs : Neighbours) : Type 0 where
  pub low_low : costs.low_low ≡ saturated (cost_of_unit_sum n m)
  pub low_high : costs.low_high ≡ saturated (cost_of_unit_sum n (m + 1))
  pub high_low : costs.high_low ≡ saturated (cost_of_unit_sum (n + 1) m)
  pub high_high : costs.high_high ≡ saturated (cost_of_unit_sum (n + 1) (m + 1))

-- n, or n + 1
abbrev pub moved_up : ℕ → Bool → ℕ
moved_up n up = if up then n + 1 else n
