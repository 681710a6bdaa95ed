-- The numbers that digits write.
use Rattle.std.proofs.Common.{ℕ, ◌+◌, ◌-◌, ◌*◌, ◌<◌, ◌≤◌, List, [], ◌∷◌, length, get_or, drop, arith}
use Rattle.std.proofs.lemmas.List.{at_drop_more}
use Rattle.bumblebee_reader.specs.Numeral.{number_behind}

-- digits behind a number write none that is less
pub number_behind-ge : (n : ℕ) (ds : List ℕ) → n ≤ number_behind n ds
number_behind-ge n [] = omega arith
number_behind-ge n (d ∷ ds) = omega (arith, number_behind-ge (10 * n + (d - 48)) ds)

pub number_behind-passes : (n : ℕ) (ds : List ℕ) (i : ℕ) → i < length ds → 10 * n + (get_or ds i 0 - 48) ≤ number_behind n (drop i ds)
number_behind-passes n ds i h =
    omega (arith, at_drop_more (number_behind n) ds i 0 h, number_behind-ge (10 * n + (get_or ds i 0 - 48)) (drop (i + 1) ds))
