-- An item that comes behind those that are kept by their weight.
use Rattle.std.specs.Prelude.{ℕ, suc, nat_lt, List, [], ◌∷◌, if◌then◌else◌}
use Rattle.weigh_mode.specs.declared.heaviest.WeighedItem.{WeighedItem}

-- an item in front of the first one that is less heavy
abbrev pub put_behind : WeighedItem → List WeighedItem → List WeighedItem
put_behind w [] = w ∷ []
put_behind w (v ∷ vs) = if nat_lt v.weight w.weight then w ∷ v ∷ vs else v ∷ put_behind w vs

-- how many stand in front of the first one that is less heavy
abbrev pub place_of : ℕ → List WeighedItem → ℕ
place_of weight [] = 0
place_of weight (v ∷ vs) = if nat_lt v.weight weight then 0 else suc (place_of weight vs)
