-- A cost as the calls give it.
use Rattle.std.specs.Prelude.{ℕ, ◌-◌, ◌^◌, min}

-- a number as the calls give it: itself where it fits 128 bits, and the greatest number of 128 bits where it does not
abbrev pub saturated : ℕ → ℕ
saturated n = min n (2 ^ 128 - 1)
