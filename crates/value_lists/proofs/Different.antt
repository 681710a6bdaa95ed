-- The different values of a list: they ascend, and are those of the list.
use Rattle.std.proofs.Common.{ℕ, suc, ◌<◌, ◌⊎◌, inl, inr, List, [], ◌∷◌, length, ℤ, refl, arith}
use Rattle.core_forms.proofs.Ascending.{Among, AreAscending-ascending, Among-ascending, Among-from_ascending}
use Rattle.value_lists.specs.ValueLists.{Ascends, different}

pub Ascends-different : (vs : List ℤ) → Ascends (different vs)
Ascends-different vs = AreAscending-ascending vs

some-among : (u : ℤ) (vs : List ℤ) → Among u vs → 0 < length vs
some-among u [] m = absurd m
some-among u (v ∷ vs) m = omega arith

-- where there is a value, there is a different one
pub some-different : (vs : List ℤ) → 0 < length vs → 0 < length (different vs)
some-different [] h = absurd (omega arith)
some-different (v ∷ vs) h = some-among v (different (v ∷ vs)) (Among-ascending v (v ∷ vs) (inl refl))

-- what holds of each value of a list holds of the different ones
pub each-different : (P : ℤ → Type 0) (vs : List ℤ) → ((u : ℤ) → Among u vs → P u) → (u : ℤ) → Among u (different vs) → P u
each-different P vs each u m = each u (Among-from_ascending u vs m)
