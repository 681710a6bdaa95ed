-- What is kept while it is sought which variables those that stay imply.
use Rattle.std.specs.Prelude.{◌≡◌, ◌≢◌, ◌==◌, ◌||◌, ◌⊎◌, ℕ, ◌+◌, ◌*◌, ◌<◌}
use Rattle.std.specs.Prelude.{◌≤◌, Bool, true, List, [], ◌∷◌, length, slice_index, slice_index_or, Some}
use Rattle.std.specs.Prelude.{if◌then◌else◌}
use Rattle.std.specs.List.{Contains}
use Rattle.order_ints.specs.declared.literal.Lit.{Lit}
use Rattle.literal_trail.specs.declared.entry.Entry.{Entry}
use Rattle.literal_trail.specs.Trail.{no_entry, entry_of}
use Rattle.proof_check.specs.Named.{Named}
use Rattle.conflict_analysis.specs.declared.marks.Mark.{Mark}
use Rattle.conflict_analysis.specs.declared.marks.Mark.TheVariants.{Blank, Met, Resolved, Entered, Kept, Failed}
use Rattle.conflict_analysis.specs.declared.marks.Mark.TheVariants.{Implied}
use Rattle.conflict_analysis.specs.declared.minimiser.Frame.{Frame}
use Rattle.conflict_analysis.specs.Reasons.{place_of, level_at, reason_at}
use Rattle.conflict_analysis.specs.Marking.{mark_at, is_blank, is_met, is_covered_mark, Once}

abbrev pub no_lit : Lit
no_lit = no_entry.lit

abbrev pub lit_in : List Lit → ℕ → Lit
lit_in lits j = slice_index_or lits j no_lit

abbrev pub frame_in : List Frame → ℕ → Frame
frame_in stack k = slice_index_or stack k (record { var = 0; place = 0 })

-- the variable is the one that is looked at, or it stays or is implied
abbrev pub is_covered : List Mark → ℕ → ℕ → Bool
is_covered minimiser v u = (u == v) || is_covered_mark (mark_at minimiser u)

-- the variable was made true by a clause
pub record MayEnter (entries : List Entry) (v : ℕ) : Type 0 where
  pub entry : Entry
  pub found : entry_of entries v ≡ Some entry
  pub reference : ℕ
  pub because : entry.reason ≡ Some reference

-- what is resolved already is of higher levels than the variable
abbrev pub IsBelow : List Entry → List Mark → ℕ → Type 0
IsBelow entries cells v = (w : ℕ) → mark_at cells w ≡ Resolved → level_at entries v < level_at entries w

-- a variable that is sought: the literals of its reason before a place are covered
pub record IsFrame (entries : List Entry) (named : ℕ → Named) (cells minimiser : List Mark) (f : Frame)
    : Type 0 where
  pub may_enter : MayEnter entries f.var
  pub below : IsBelow entries cells f.var
  pub inside : f.place ≤ length (reason_at named entries f.var).lits
  pub covered : (j : ℕ) → j < f.place
      → is_covered minimiser f.var (lit_in (reason_at named entries f.var).lits j).var ≡ true
  pub entered : mark_at minimiser f.var ≡ Entered

-- a variable that those that stay and those listed before it imply
pub record IsOrdered (entries : List Entry) (named : ℕ
    → Named) (cells minimiser : List Mark) (order : List ℕ) (i : ℕ) : Type 0 where
  pub may_enter : MayEnter entries (slice_index order i)
  pub below : IsBelow entries cells (slice_index order i)
  pub others : (l : Lit) → Contains (reason_at named entries (slice_index order i)).lits l
      → (l.var ≡ slice_index order i) ⊎ (mark_at minimiser l.var ≡ Kept)
      ⊎ ((j : ℕ) × (j < i) × (slice_index order j ≡ l.var))
  pub marked : mark_at minimiser (slice_index order i) ≡ Implied

-- each variable that is sought is entered, each older than the one that it is sought for; listed are those that are
-- implied
pub record IsSeeking (entries : List Entry) (named : ℕ
    → Named) (cells minimiser : List Mark) (stack : List Frame) (order : List ℕ) : Type 0 where
  pub frames : (k : ℕ) → k < length stack → IsFrame entries named cells minimiser (frame_in stack k)
  pub entered : (v : ℕ) → mark_at minimiser v ≡ Entered → (k : ℕ) × (k < length stack)
      × ((frame_in stack k).var ≡ v)
  pub falling : (i j : ℕ) → i < j → j < length stack
      → place_of entries (frame_in stack j).var < place_of entries (frame_in stack i).var
  pub ordered : (i : ℕ) → i < length order → IsOrdered entries named cells minimiser order i
  pub implied : (v : ℕ) → mark_at minimiser v ≡ Implied → Contains order v
  pub kept : (v : ℕ) → mark_at minimiser v ≡ Kept → (mark_at cells v ≡ Met) × (1 ≤ level_at entries v)
  pub failed : (v : ℕ) → mark_at minimiser v ≡ Failed → (mark_at cells v ≢ Met) × (1 ≤ level_at entries v)
  pub once : Once order
  pub proper : (v : ℕ) → (mark_at minimiser v ≢ Met) × (mark_at minimiser v ≢ Resolved)

-- what a variable that isn't implied becomes
abbrev pub outcome_of : Mark → Mark
outcome_of m = if is_met m then Kept else Failed

-- what has a mark has one still
abbrev pub StayMarked : List Mark → List Mark → Type 0
StayMarked old new = (v : ℕ) → mark_at old v ≢ Blank → mark_at new v ≢ Blank

-- what stays in the clause stays
abbrev pub StayKept : List Mark → List Mark → Type 0
StayKept old new = (v : ℕ) → mark_at old v ≡ Kept → mark_at new v ≡ Kept

-- how many marks are blank
abbrev pub blanks : List Mark → ℕ
blanks [] = 0
blanks (m ∷ ms) = (if is_blank m then 1 else 0) + blanks ms

-- how many steps there may be still: two for each blank mark, one for each variable that is sought
abbrev pub steps_left : List Mark → List Frame → ℕ
steps_left minimiser stack = 2 * blanks minimiser + length stack

-- a step of the search keeps it, and there are fewer to come
pub record IsStepped (entries : List Entry) (named : ℕ
    → Named) (cells minimiser : List Mark) (stack : List Frame) (minimiser_after : List Mark)
    (stack_after : List Frame) (order_after : List ℕ) : Type 0 where
  pub seeking : IsSeeking entries named cells minimiser_after stack_after order_after
  pub fewer : steps_left minimiser_after stack_after < steps_left minimiser stack
  pub stay : StayMarked minimiser minimiser_after
  pub keep : StayKept minimiser minimiser_after
  pub size : length minimiser_after ≡ length minimiser

-- a variable may be sought first: it has an entry, and what is resolved is of higher levels
pub record IsRoot (entries : List Entry) (cells : List Mark) (v : ℕ) : Type 0 where
  pub entry : Entry
  pub found : entry_of entries v ≡ Some entry
  pub below : IsBelow entries cells v

-- each variable that is met is one, or stays
abbrev pub AreRoots : List Entry → List Mark → List Mark → Type 0
AreRoots entries cells minimiser = (v : ℕ) → mark_at cells v ≡ Met → mark_at minimiser v ≡ Blank
    → IsRoot entries cells v

-- the outcome of each variable that is met is known
abbrev pub AllKnown : List Mark → List Mark → Type 0
AllKnown cells minimiser = (v : ℕ) → mark_at cells v ≡ Met → mark_at minimiser v ≢ Blank

-- listed variables are implied one after another, each once
pub record AreOrdered (entries : List Entry) (named : ℕ → Named) (cells minimiser : List Mark) (order : List ℕ)
    : Type 0 where
  pub each : (i : ℕ) → i < length order → IsOrdered entries named cells minimiser order i
  pub once : Once order
