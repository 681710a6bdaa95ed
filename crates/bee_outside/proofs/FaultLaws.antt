-- A count that rose in one of several calls rose over all of them.
use Rattle.std.proofs.Common.{ℕ, ◌≤◌, arith, inl, inr}
use Rattle.bee_outside.specs.Faults.{Rose, next_count}

-- the call comes later
pub Rose-from_before : (a b c : ℕ) → a ≤ b → Rose b c → Rose a c
Rose-from_before a b c le rose = elim rose as (λ _. Rose a c) [ inl lt ↦ inl (omega arith) | inr last ↦ inr last ]

-- the call comes first
pub Rose-to_after : (a b c : ℕ) → a ≤ b → Rose a b → b ≤ c → Rose a c
Rose-to_after a b c le rose le2 = grind arith

-- the next count is one that rose
pub Rose-next : (n : ℕ) → Rose n (next_count n)
Rose-next n = grind arith
