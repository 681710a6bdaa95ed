-- Marks of variables or of levels, and the list of those that have one.
use Rattle.std.specs.Prelude.{◌≡◌, ◌≢◌, ℕ, ◌<◌, Bool, true, false, List, length, slice_index}
use Rattle.std.specs.Prelude.{slice_index_or}
use Rattle.std.specs.List.{Contains, All}
use Rattle.conflict_analysis.specs.declared.marks.Mark.{Mark}
use Rattle.conflict_analysis.specs.declared.marks.Mark.TheVariants.{Blank, Met, Resolved, Entered, Kept, Failed}
use Rattle.conflict_analysis.specs.declared.marks.Mark.TheVariants.{Implied}

-- the mark of a number; none past the end
abbrev pub mark_at : List Mark → ℕ → Mark
mark_at cells v = slice_index_or cells v Blank

abbrev pub is_blank : Mark → Bool
is_blank Blank = true
is_blank Met = false
is_blank Resolved = false
is_blank Entered = false
is_blank Kept = false
is_blank Failed = false
is_blank Implied = false

abbrev pub is_met : Mark → Bool
is_met Blank = false
is_met Met = true
is_met Resolved = false
is_met Entered = false
is_met Kept = false
is_met Failed = false
is_met Implied = false

-- no number stands at two places
abbrev pub Once : List ℕ → Type 0
Once vs = (i j : ℕ) → i < length vs → j < length vs → slice_index vs i ≡ slice_index vs j → i ≡ j

-- listed is what has a mark, each number once
pub record IsTouched (cells : List Mark) (touched : List ℕ) : Type 0 where
  pub listed : (v : ℕ) → mark_at cells v ≢ Blank → Contains touched v
  pub inside : All (λ v. v < length cells) touched
  pub marked : All (λ v. mark_at cells v ≢ Blank) touched
  pub once : Once touched

-- a mark for each number, and the numbers that have one
pub record Marking : Type 0 where
  pub cells : List Mark
  pub touched : List ℕ

abbrev pub is_covered_mark : Mark → Bool
is_covered_mark Blank = false
is_covered_mark Met = false
is_covered_mark Resolved = false
is_covered_mark Entered = false
is_covered_mark Kept = true
is_covered_mark Failed = false
is_covered_mark Implied = true
