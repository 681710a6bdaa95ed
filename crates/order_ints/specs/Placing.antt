-- A member put at its place among members in order.
use Rattle.std.specs.Prelude.{Bool, List, [], ◌∷◌, if◌then◌else◌}

-- Members in order with one more at its place, unless it is there. Of two members, `same` says whether they are one,
-- and `less` whether the first stands before the second.
abbrev pub placed_by : {A : Type 0} → (A → A → Bool) → (A → A → Bool) → A → List A → List A
placed_by same less x [] = x ∷ []
placed_by same less x (y ∷ ys) = if same x y then y ∷ ys
    else (if less x y then x ∷ y ∷ ys else y ∷ placed_by same less x ys)

-- the different members of a list, in order
abbrev pub in_order_by : {A : Type 0} → (A → A → Bool) → (A → A → Bool) → List A → List A
in_order_by same less [] = []
in_order_by same less (x ∷ xs) = placed_by same less x (in_order_by same less xs)
