-- The stretches of a search between its restarts.
use Rattle.std.specs.Prelude.{ℕ, zero, suc, ◌+◌, ◌*◌, ◌^◌, ◌<◌, ◌≤◌}
use Rattle.search_laws.specs.Luby.{stretch_length}

-- how many clauses the first n stretches learn together
abbrev pub stretches_total : ℕ → ℕ
stretches_total zero = 0
stretches_total (suc n) = stretches_total n + stretch_length (suc n)

-- each of the first n stretches is shorter than a bound
abbrev pub AreShort : ℕ → ℕ → Type 0
AreShort bound n = (k : ℕ) → 1 ≤ k → k ≤ n → stretch_length k < bound

-- where each of the first n stretches is shorter than 2^v, they have, with one more of 2^v clauses, at most (v+1) * 2^v
abbrev pub StretchesFit : Type 0
StretchesFit = (v n : ℕ) → AreShort (2 ^ v) n → stretches_total n + 2 ^ v ≤ (v + 1) * 2 ^ v
