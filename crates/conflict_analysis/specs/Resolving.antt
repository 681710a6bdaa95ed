-- What is kept while literals are resolved, one after another, from the conflict backwards.
use Rattle.std.specs.Prelude.{◌≡◌, ◌≢◌, ◌⊎◌, ℕ, ◌+◌, ◌<◌, ◌≤◌, false, List, []}
use Rattle.std.specs.Prelude.{◌∷◌, ◌++◌, length, take, slice_index, Some}
use Rattle.std.specs.List.{Contains}
use Rattle.order_ints.specs.declared.literal.Lit.{Lit}
use Rattle.literal_trail.specs.declared.entry.Entry.{Entry}
use Rattle.literal_trail.specs.Trail.{Trail, truth_in, level_in}
use Rattle.proof_check.specs.Named.{Named}
use Rattle.proof_check.specs.Values.{VarsDiffer}
use Rattle.conflict_analysis.specs.declared.marks.Mark.{Mark}
use Rattle.conflict_analysis.specs.declared.marks.Mark.TheVariants.{Blank, Met, Resolved, Kept}
use Rattle.conflict_analysis.specs.Reasons.{place_of, level_at}
use Rattle.conflict_analysis.specs.Learned.{Step, Derives, IsStep, step_lits}
use Rattle.conflict_analysis.specs.Marking.{mark_at}
use Rattle.conflict_analysis.specs.Walking.{met_of_level}

-- the ids of the conflict and of the reasons, the last one that is resolved at the end
abbrev pub backward : List Step → Named → List ℕ
backward [] conflict = conflict.id ∷ []
backward (s ∷ steps) conflict = backward steps conflict ++ s.reason.id ∷ []

-- a literal that is spared, or one that is false and met
abbrev pub Known : List Entry → List Lit → List Mark → Lit → Type 0
Known entries spare cells l = Contains spare l
    ⊎ ((mark_at cells l.var ≡ Met) × (truth_in entries l ≡ Some false))

-- what is resolved so far derives the conflict from what is met
pub record IsResolving (entries : List Entry) (named : ℕ
    → Named) (spare : List Lit) (bound : ℕ) (conflict : Named) (cells : List Mark) (hints : List ℕ) : Type 0 where
  pub steps : List Step
  pub told : hints ≡ backward steps conflict
  pub derives : Derives (Known entries spare cells) steps conflict.lits
  pub of_trail : (s : Step) → Contains steps s → IsStep entries named s
  pub resolved : (s : Step) → Contains steps s → mark_at cells s.lit.var ≡ Resolved
  pub differ : VarsDiffer (step_lits steps)
  pub inside : (v : ℕ) → mark_at cells v ≢ Blank → place_of entries v < bound

-- on the walk down the trail: what is met lies ahead, what is resolved was passed and is of the current level, and some
-- of the current level is ahead
pub record IsWalking (t : Trail) (named : ℕ → Named) (conflict : Named) (cells : List Mark) (hints : List ℕ)
    (place ahead : ℕ) : Type 0 where
  pub resolving : IsResolving t.entries named [] (length t.entries) conflict cells hints
  pub marks : (v : ℕ) → (mark_at cells v ≡ Blank)
      ⊎ ((mark_at cells v ≡ Met) × (place_of t.entries v < place))
      ⊎ ((mark_at cells v ≡ Resolved) × (place ≤ place_of t.entries v) × (level_at t.entries v ≡ t.level))
  pub count : ahead ≡ met_of_level t.level cells (take place t.entries)
  pub some : 0 < ahead
  pub inside : place ≤ length t.entries
  pub size : length cells ≡ t.vars + 1

-- behind the walk one literal of the current level is left
pub record IsWalked (t : Trail) (named : ℕ → Named) (conflict : Named) (cells : List Mark) (hints : List ℕ)
    (first : Lit) : Type 0 where
  pub resolving : IsResolving t.entries named [] (length t.entries) conflict cells hints
  pub marks : (v : ℕ) → (mark_at cells v ≡ Blank)
      ⊎ ((mark_at cells v ≡ Met) × ((v ≡ first.var) ⊎ (level_at t.entries v < t.level)))
      ⊎ ((mark_at cells v ≡ Resolved) × (level_at t.entries v ≡ t.level))
  pub met : mark_at cells first.var ≡ Met
  pub is_false : truth_in t.entries first ≡ Some false
  pub now : level_in t.entries first.var ≡ Some t.level
  pub size : length cells ≡ t.vars + 1

-- as listed variables are followed from the end: those ahead aren't resolved, and what is met stays or is ahead
pub record IsFollowing (entries : List Entry) (named : ℕ
    → Named) (spare : List Lit) (bound : ℕ) (conflict : Named) (minimiser : List Mark) (order : List ℕ)
    (cells : List Mark) (hints : List ℕ) (left : ℕ) : Type 0 where
  pub resolving : IsResolving entries named spare bound conflict cells hints
  pub ahead : (i : ℕ) → i < left → (mark_at cells (slice_index order i) ≡ Blank)
      ⊎ (mark_at cells (slice_index order i) ≡ Met)
  pub met : (v : ℕ) → mark_at cells v ≡ Met → (mark_at minimiser v ≡ Kept)
      ⊎ ((i : ℕ) × (i < left) × (slice_index order i ≡ v))
  pub kept : (v : ℕ) → mark_at minimiser v ≡ Kept → mark_at cells v ≡ Met
