-- Rings of members: each member has the number of the one behind it, and the one behind the last is the first.
use Rattle.std.specs.Prelude.{ℕ, zero, suc, ◌-◌, List, [], ◌∷◌, slice_index}
use Rattle.equation_store.specs.Merge.{size_in}

-- the member behind a variable
abbrev pub behind : List ℕ → ℕ → ℕ
behind next v = slice_index next (v - 1)

-- so many members, from v on, each the one behind the one before
abbrev pub walk_of : (ℕ → ℕ) → ℕ → ℕ → List ℕ
walk_of f v zero = []
walk_of f v (suc n) = v ∷ walk_of f (f v) n

-- where so many steps lead from v
abbrev pub place_after : (ℕ → ℕ) → ℕ → ℕ → ℕ
place_after f v zero = v
place_after f v (suc n) = place_after f (f v) n

-- from a label's variable on, as many members as its class has
abbrev pub ring_of : List ℕ → List ℕ → ℕ → List ℕ
ring_of sizes next x = walk_of (behind next) x (size_in sizes x)
