-- How many clauses may be learned.
use Rattle.std.specs.Prelude.{ℕ, Bool, nat_lt, ◌&&◌, ◌^◌}

-- a number of learned clauses is from 1 and below 2 ^ 63
abbrev pub is_count : ℕ → Bool
is_count n = nat_lt 0 n && nat_lt n (2 ^ 63)
