-- What a search keeps.
use Rattle.std.specs.Prelude.{◌≡◌, ℕ, ◌+◌, ◌-◌, ◌*◌, ◌<◌, ◌≤◌, ◌^◌, ◌++◌}
use Rattle.std.specs.Prelude.{◌∷◌, [], map, pos, vec_len, vec_capacity, Bool, true, Option, None, Some, Result}
use Rattle.std.specs.Prelude.{Ok, Err, List, length, FitsSigned}
use Rattle.std.specs.Int.{w64}
use Rattle.std.specs.declared.alloc.AllocError.{AllocError}
use Rattle.order_ints.specs.declared.literal.Lit.{Lit}
use Rattle.literal_trail.specs.Trail.{Trail, truth_in, up_to, cut_back}
use Rattle.clause_arena.specs.Clauses.{clause_at, IsLive, lits_of}
use Rattle.proof_check.specs.declared.line.ProofLine.TheVariants.{Add}
use Rattle.clause_rings.specs.Clauses.{IsDb}
use Rattle.proof_check.specs.Lrat.{addition_fault}
use Rattle.proof_check.specs.New.{New}
use Rattle.proof_check.specs.Lines.{Each}
use Rattle.conflict_analysis.specs.Learned.{AreKept}
use Rattle.learning_solver.specs.declared.search.Search.{Search}
use Rattle.learning_solver.specs.declared.found.Found.{Found}
use Rattle.learning_solver.specs.declared.found.Found.TheVariants.{Sat, Refuted, Spent}
use Rattle.learning_solver.specs.declared.restarts.Restarts.{Restarts}
use Rattle.learning_solver.specs.declared.task.Task.{Task}
use Rattle.learning_solver.specs.declared.lesson.Lesson.{Lesson}
use Rattle.learning_solver.specs.Log.{additions, proof_behind, IsLog, GoesOn}
use Rattle.learning_solver.specs.Kept.{IsKept, AreOnce}
use Rattle.learning_solver.specs.Height.{height}
use Rattle.learning_solver.specs.Outcome.{IsSolution, IsRefutation, NoneRefutes, most_learned}
use Rattle.learning_solver.specs.Restarting.{AreStretched}

-- the parts of a search belong together
pub record IsSearch (s : Search) : Type 0 where
  pub db : IsDb s.db.clauses s.db.trail
  pub vars : s.db.trail.vars ≡ s.cnf.now.vars
  pub few : s.cnf.now.vars ≤ 2 ^ 27
  pub log : IsLog s.cnf.now s.lines.items
  pub base : s.base ≡ length s.cnf.now.clauses
  pub added : s.added ≡ additions s.lines.items
  pub kept : IsKept (proof_behind s.cnf.now s.lines.items).live s.db.clauses
  pub once : AreOnce s.base s.db.clauses
  pub order : s.order ≡ s.cnf.now.vars
  pub walker : s.walker.vars ≡ s.cnf.now.vars

-- the CNF stays, and the log's lines
pub record GoesForward (old new : Search) : Type 0 where
  pub cnf : new.cnf ≡ old.cnf
  pub log : GoesOn old.lines.items new.lines.items

-- the assumption is true by level 1
abbrev pub IsAssumed : Trail → Option Lit → Type 0
IsAssumed t None = Unit {0}
IsAssumed t (Some a) = truth_in (up_to 1 t.entries) a ≡ Some true

-- a search that goes on
pub record IsRunning (task : Task) (p : Restarts) (s : Search) : Type 0 where
  pub search : IsSearch s
  pub within : s.added ≤ task.budget
  pub stretched : AreStretched s.cnf.now.vars s.added (height s.db.trail) p
  pub assumed : 1 ≤ s.db.trail.level → IsAssumed s.db.trail task.assumption

-- a search that stopped, with whatever outcome
pub record IsLeft (task : Task) (p : Restarts) (s : Search) : Type 0 where
  pub search : IsSearch s
  pub within : s.added ≤ task.budget
  pub most : s.added ≤ p.start + most_learned p.restart s.cnf.now.vars

-- what an outcome says
abbrev pub Says : Task → Restarts → Search → Found → Type 0
Says task p s (Sat values) = IsSolution s.cnf.now task.assumption values
Says task p s (Refuted id) = IsRefutation s.cnf.now s.lines.items task.assumption id
Says task p s Spent = (s.added ≡ task.budget) × (s.added < p.start + most_learned p.restart s.cnf.now.vars)
    × NoneRefutes s.cnf.now s.lines.items task.assumption

-- an outcome of a search that stopped
abbrev pub IsOutcome : Task → Restarts → Search → Found → Type 0
IsOutcome task p s found = IsLeft task p s × Says task p s found

-- how much a search may still do
abbrev pub left_to_do : Task → Search → ℕ
left_to_do task s = (task.budget - s.added) * (s.cnf.now.vars + 1) + (s.cnf.now.vars - length s.db.trail.entries)

-- a turn ends the search, or leaves less to do
abbrev pub IsTurned : Task → Search → Restarts → Search → Result (Option Found) AllocError → Type 0
IsTurned task old p new (Ok None) = IsRunning task p new × (left_to_do task new < left_to_do task old)
IsTurned task old p new (Ok (Some found)) = IsOutcome task p new found
IsTurned task old p new (Err e) = IsLeft task p new

-- the search jumped back to the end of a level
pub record JumpsBack (old new : Search) (level : ℕ) : Type 0 where
  pub same : new ≡ record old { db = new.db }
  pub clauses : new.db.clauses ≡ old.db.clauses
  pub trail : new.db.trail ≡ cut_back old.db.trail level
  pub spare_lits : old.db.spare_lits ≤ new.db.spare_lits
  pub spare_clauses : old.db.spare_clauses ≤ new.db.spare_clauses

-- clauses, trail and log stay
pub record Stays (old new : Search) : Type 0 where
  pub cnf : new.cnf ≡ old.cnf
  pub lines : new.lines.items ≡ old.lines.items
  pub added : new.added ≡ old.added
  pub clauses : (c : ℕ) → clause_at new.db.clauses c ≡ clause_at old.db.clauses c
  pub trail : new.db.trail ≡ old.db.trail

-- a clause with the next id, and room for it
pub record IsReady (s : Search) (lesson : Lesson) : Type 0 where
  pub next : lesson.id ≡ (proof_behind s.cnf.now s.lines.items).last + 1
  pub lits : lesson.lits ≡ s.walker.lits
  pub hints : lesson.hints ≡ map pos s.walker.hints
  pub small : lesson.id < 2 ^ 64
  pub fits : Each (FitsSigned w64) lesson.hints
  pub spare_lits : length lesson.lits ≤ s.db.spare_lits
  pub spare_clauses : 1 ≤ s.db.spare_clauses
  pub spare_line : vec_len s.lines < vec_capacity s.lines

-- a clause came into store and log
pub record Takes (old new : Search) (lesson : Lesson) (c : ℕ) : Type 0 where
  pub cnf : new.cnf ≡ old.cnf
  pub lines : new.lines.items ≡ old.lines.items ++ Add lesson.id lesson.lits lesson.hints ∷ []
  pub added : new.added ≡ old.added + 1
  pub trail : new.db.trail ≡ old.db.trail
  pub live : IsLive new.db.clauses c
  pub id : (clause_at new.db.clauses c).id ≡ lesson.id
  pub lits : lits_of new.db.clauses c ≡ lesson.lits

-- what a learned clause is, beside being ready: it has no fault, is new, and is false by one literal of the current
-- level and others of levels up to the one to jump back to
pub record Teaches (s : Search) (lesson : Lesson) : Type 0 where
  pub fault : addition_fault (proof_behind s.cnf.now s.lines.items) lesson.id lesson.lits lesson.hints ≡ None
  pub new : New (proof_behind s.cnf.now s.lines.items).live lesson.lits
  pub first : Lit
  pub others : List Lit
  pub shape : lesson.lits ≡ first ∷ others
  pub kept : AreKept s.db.trail.entries s.db.trail.level first others s.walker.jump

-- the clause came, and the trail fell
pub record TurnsBack (old new : Search) (lesson : Lesson) : Type 0 where
  pub cnf : new.cnf ≡ old.cnf
  pub lines : new.lines.items ≡ old.lines.items ++ Add lesson.id lesson.lits lesson.hints ∷ []
  pub added : new.added ≡ old.added + 1
  pub falls : height new.db.trail < height old.db.trail
  pub assumed : (a : Option Lit) → (1 ≤ old.db.trail.level → IsAssumed old.db.trail a)
      → 1 ≤ new.db.trail.level → IsAssumed new.db.trail a

-- clauses that were learned may have gone from store and log
pub record Forgets (old new : Search) : Type 0 where
  pub cnf : new.cnf ≡ old.cnf
  pub log : GoesOn old.lines.items new.lines.items
  pub added : new.added ≡ old.added
  pub trail : new.db.trail ≡ old.db.trail

-- the search is at level 0, and clauses that were learned may have gone
pub record BeginsAnew (old new : Search) : Type 0 where
  pub cnf : new.cnf ≡ old.cnf
  pub log : GoesOn old.lines.items new.lines.items
  pub added : new.added ≡ old.added
  pub level : new.db.trail.level ≡ 0

-- the outcome of a whole call
abbrev pub IsAnswered : Task → Bool → Search → Search → Result Found AllocError → Type 0
IsAnswered task restart old new (Ok found) =
    IsOutcome task (record { start = old.added; restart = restart; stretches = 0; learned = 0 }) new found
IsAnswered task restart old new (Err e) =
    IsLeft task (record { start = old.added; restart = restart; stretches = 0; learned = 0 }) new
