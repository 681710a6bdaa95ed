-- The first clause that a valuation makes false.
use Rattle.std.specs.Prelude.{◌≡◌, ℕ, ◌+◌, ◌<◌, true, false, List, [], ◌∷◌, Option, None, Some}
use Rattle.std.specs.Prelude.{length, slice_index_or, if◌then◌else◌}
use Rattle.order_ints.specs.declared.literal.Lit.{Lit}
use Rattle.order_ints.specs.Truth.{Valuation}
use Rattle.order_ints.specs.Satisfies.{clause_truth}

-- the place of the first false clause, the first one standing at n; `None` where all are true
abbrev pub first_false_from : ℕ → Valuation → List (List Lit) → Option ℕ
first_false_from n σ [] = None
first_false_from n σ (c ∷ cs) = if clause_truth σ c then first_false_from (n + 1) σ cs else Some n

-- the place of the first false clause, counted from 0
abbrev pub first_false_place : Valuation → List (List Lit) → Option ℕ
first_false_place σ cs = first_false_from 0 σ cs

-- there is a clause at the place, it is false, and those before it are true
abbrev pub FirstFalseAt : Valuation → List (List Lit) → ℕ → Type 0
FirstFalseAt σ cs i = (i < length cs) × (clause_truth σ (slice_index_or cs i []) ≡ false)
    × ((k : ℕ) → k < i → clause_truth σ (slice_index_or cs k []) ≡ true)
