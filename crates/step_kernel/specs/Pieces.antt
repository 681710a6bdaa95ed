-- A list of lists that stands in one flat list, with the length of each.
use Rattle.std.specs.Prelude.{ℕ, ◌+◌, List, [], ◌∷◌, take, drop}

-- the pieces of these lengths, one behind another
abbrev pub pieces : {X : Type 0} → List ℕ → List X → List (List X)
pieces [] xs = []
pieces (n ∷ ns) xs = take n xs ∷ pieces ns (drop n xs)

-- all lengths together
abbrev pub all_lengths : List ℕ → ℕ
all_lengths [] = 0
all_lengths (n ∷ ns) = n + all_lengths ns
