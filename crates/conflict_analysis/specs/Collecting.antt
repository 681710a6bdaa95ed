-- What is left of the marks is the clause.
use Rattle.std.specs.Prelude.{◌≡◌, ◌≢◌, ◌⊎◌, ℕ, ◌<◌, ◌≤◌, List, ◌∷◌, length}
use Rattle.std.specs.Prelude.{slice_index}
use Rattle.std.specs.List.{Contains}
use Rattle.order_ints.specs.declared.literal.Lit.{Lit}
use Rattle.order_ints.specs.Truth.{not_lit}
use Rattle.literal_trail.specs.declared.entry.Entry.{Entry}
use Rattle.literal_trail.specs.Trail.{Trail}
use Rattle.proof_check.specs.Values.{VarsDiffer}
use Rattle.conflict_analysis.specs.declared.marks.Mark.{Mark}
use Rattle.conflict_analysis.specs.declared.marks.Mark.TheVariants.{Met}
use Rattle.conflict_analysis.specs.Reasons.{the_entry, level_at, place_of}
use Rattle.conflict_analysis.specs.Marking.{mark_at}
use Rattle.conflict_analysis.specs.Learned.{IsFalseUpTo, IsSecond}

-- what is met has entries, and all but the first are of levels between 0 and the current one
pub record IsLeft (t : Trail) (cells : List Mark) (first : ℕ) : Type 0 where
  pub entry : (v : ℕ) → mark_at cells v ≡ Met → place_of t.entries v < length t.entries
  pub above : (v : ℕ) → mark_at cells v ≡ Met → 1 ≤ level_at t.entries v
  pub below : (v : ℕ) → mark_at cells v ≡ Met → (v ≡ first) ⊎ (level_at t.entries v < t.level)
  pub now : level_at t.entries first ≡ t.level
  pub met : mark_at cells first ≡ Met

-- none of those that are met but the first is of a greater level, and the best is one of it, if there is one
pub record IsFarthest (entries : List Entry) (cells : List Mark) (first best jump : ℕ) : Type 0 where
  pub most : (v : ℕ) → mark_at cells v ≡ Met → v ≢ first → level_at entries v ≤ jump
  pub has : 0 < jump → (mark_at cells best ≡ Met) × (best ≢ first) × (level_at entries best ≡ jump)
  pub none : jump ≡ 0 → best ≡ 0

-- the literals are those of what is met, the first of the current level, the second of the greatest other one
pub record IsCollected (t : Trail) (cells : List Mark) (first : Lit) (lits : List Lit) (jump : ℕ) : Type 0 where
  pub others : List Lit
  pub shape : lits ≡ first ∷ others
  pub lower : (l : Lit) → Contains others l → IsFalseUpTo t.entries jump l
  pub second : IsSecond t.entries jump others
  pub below : jump < t.level
  pub differ : VarsDiffer lits
  pub met : (l : Lit) → Contains lits l → mark_at cells l.var ≡ Met
  pub all : (v : ℕ) → mark_at cells v ≡ Met → Contains lits (not_lit (the_entry t.entries v).lit)

-- the literals of what was looked at: the first, the best, and those of a front of a list
pub record IsCollecting (t : Trail) (cells : List Mark) (first : Lit) (best jump : ℕ) (touched : List ℕ) (k : ℕ)
    (lits : List Lit) : Type 0 where
  pub others : List Lit
  pub shape : lits ≡ first ∷ others
  pub second : IsSecond t.entries jump others
  pub lower : (l : Lit) → Contains others l → IsFalseUpTo t.entries jump l
  pub differ : VarsDiffer lits
  pub met : (l : Lit) → Contains lits l → mark_at cells l.var ≡ Met
  pub among : (l : Lit) → Contains lits l → (l.var ≡ first.var) ⊎ (l.var ≡ best)
      ⊎ ((i : ℕ) × (i < k) × (slice_index touched i ≡ l.var))
  pub farther : 0 < jump → Contains lits (not_lit (the_entry t.entries best).lit)
  pub done : (i : ℕ) → i < k → mark_at cells (slice_index touched i) ≡ Met
      → Contains lits (not_lit (the_entry t.entries (slice_index touched i)).lit)
