-- Partial values in a table, with a list of the variables that were given one.
use Rattle.std.specs.Prelude.{◌==◌, ℕ, Bool, ◌||◌, Option, None, is_none, IsTrue, List, slice_index_or}
use Rattle.std.specs.List.{list_any}
use Rattle.proof_check.specs.Values.{Values}

-- the value at a variable's place; none for one without a place
abbrev pub value_at : List (Option Bool) → Values
value_at truths v = slice_index_or truths v None

-- whether a variable is listed
abbrev pub is_listed : List ℕ → ℕ → Bool
is_listed given v = list_any (λ w. w == v) given

-- each variable with a value is listed
abbrev pub AreListed : List (Option Bool) → List ℕ → Type 0
AreListed truths given = (v : ℕ) → IsTrue (is_none (value_at truths v) || is_listed given v)
