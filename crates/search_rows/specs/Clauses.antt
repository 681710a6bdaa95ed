-- Clauses whose variables ascend.
use Rattle.std.specs.Prelude.{ℕ, ◌≤◌, ◌<◌, List, [], ◌∷◌}
use Rattle.order_ints.specs.declared.literal.Lit.{Lit}

-- the variables ascend from above one number, and up to another one
abbrev pub Ascends : ℕ → ℕ → List Lit → Type 0
Ascends low vars [] = Unit {0}
Ascends low vars (l ∷ ls) = (low < l.var) × ((l.var ≤ vars) × Ascends l.var vars ls)

-- those of each clause do, from 1
abbrev pub EachAscends : ℕ → List (List Lit) → Type 0
EachAscends vars [] = Unit {0}
EachAscends vars (c ∷ cs) = Ascends 0 vars c × EachAscends vars cs
