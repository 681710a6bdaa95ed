-- Lists in another order.
use Rattle.std.proofs.Common.{ℕ, List, ◌++◌, Contains, ⊎_elim}
use Rattle.std.proofs.lemmas.List.Elements.{Contains-append_left, Contains-append_right, Contains-append_cases}

-- two lists one behind the other have the same members in either order
pub exchanged : (xs ys : List ℕ) (v : ℕ) → Contains (xs ++ ys) v → Contains (ys ++ xs) v
exchanged xs ys v h = ⊎_elim (λ first. Contains-append_right ys xs v first) (λ second. Contains-append_left ys xs v second) (Contains-append_cases xs ys v h)
