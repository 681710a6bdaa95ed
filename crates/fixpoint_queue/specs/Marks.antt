-- Marks of ids.
use Rattle.std.specs.Prelude.{◌≡◌, ℕ, ◌+◌, ◌-◌, ◌≤◌, ◌==◌, Bool, false, List, [], ◌∷◌}
use Rattle.std.specs.Prelude.{length, slice_index_or, Option, None, Some, if◌then◌else◌}

-- the mark of an id; those of 0 and of ids without a place are false
abbrev pub mark_of : List Bool → ℕ → Bool
mark_of marks id = if id == 0 then false else slice_index_or marks (id - 1) false

-- the least marked id, where the first mark is that of the id given
abbrev pub least_marked : ℕ → List Bool → Option ℕ
least_marked id [] = None
least_marked id (m ∷ marks) = if m then Some id else least_marked (id + 1) marks

-- how many marks at the beginning are false
abbrev pub false_first : List Bool → ℕ
false_first [] = 0
false_first (m ∷ marks) = if m then 0 else false_first marks + 1

-- the marks are those that there were, and perhaps others behind them that are not set
pub record AreLonger (marks longer : List Bool) : Type 0 where
  pub length : length marks ≤ length longer
  pub mark : (id : ℕ) → mark_of longer id ≡ mark_of marks id
