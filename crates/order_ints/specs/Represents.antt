-- When constraints, over variables of which some are fresh, stand for a property of the others.
use Rattle.std.specs.Prelude.{ℕ, ◌≤◌}
use Rattle.order_ints.specs.Truth.{Valuation, Agree}

-- a property of valuations depends on the variables below n alone
abbrev pub DependsBelow : ℕ → (Valuation → Type 0) → Type 0
DependsBelow n P = (σ τ : Valuation) → Agree n σ τ → P σ → P τ

-- Constraints over the variables below m, which a valuation meets or not, stand for a property of the variables
-- below n: each valuation that meets them has it, and each one that has it can be changed from n upwards so that
-- it meets them.
pub record Represents (n m : ℕ) (Meets P : Valuation → Type 0) : Type 0 where
  pub fewer : n ≤ m
  pub constrains : DependsBelow m Meets
  pub depends : DependsBelow n P
  pub implies : (σ : Valuation) → Meets σ → P σ
  pub extends : (σ : Valuation) → P σ → (τ : Valuation) × Agree n σ τ × Meets τ
