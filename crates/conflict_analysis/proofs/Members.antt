-- Members of a list, by its head and its rest.
use Rattle.std.proofs.Common.{◌≡◌, ◌⊎◌, ℕ, zero, suc, ◌<◌, List, [], ◌∷◌, length, get_or, refl, subst, inl, inr, arith}
use Rattle.std.specs.List.{Contains}

pub contains-here : {X : Type 0} (x : X) (xs : List X) → Contains (x ∷ xs) x
contains-here x xs = (0, omega arith, refl)

pub contains-there : {X : Type 0} (x y : X) (xs : List X) → Contains xs y → Contains (x ∷ xs) y
contains-there x y xs c = let l : c.0 < length xs = c.1 in (suc c.0, omega arith, c.2)

contains-at : {X : Type 0} (x y : X) (xs : List X) (k : ℕ) → k < length (x ∷ xs) → get_or (x ∷ xs) k y ≡ y → (x ≡ y) ⊎ Contains xs y
contains-at x y xs zero l e = inl e
contains-at x y xs (suc k) l e = inr (k, omega arith, e)

pub contains-cases : {X : Type 0} (x y : X) (xs : List X) → Contains (x ∷ xs) y → (x ≡ y) ⊎ Contains xs y
contains-cases x y xs c = contains-at x y xs c.0 c.1 c.2

pub contains-nil : {X : Type 0} (y : X) → Contains [] y → ⊥
contains-nil {X} y c = let l : c.0 < length {A = X} [] = c.1 in omega arith

pub contains-equal : {X : Type 0} (xs : List X) (x y : X) → x ≡ y → Contains xs x → Contains xs y
contains-equal xs x y e c = subst (λ z. Contains xs z) e c
