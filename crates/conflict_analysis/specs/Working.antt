-- What an analysis works with, and what it has come to when all that is implied is resolved.
use Rattle.std.specs.Prelude.{◌≡◌, ◌≢◌, ◌⊎◌, ℕ, ◌<◌, ◌≤◌, false, List, [], length, Some}
use Rattle.std.specs.List.{Contains}
use Rattle.order_ints.specs.declared.literal.Lit.{Lit}
use Rattle.literal_trail.specs.declared.entry.Entry.{Entry}
use Rattle.literal_trail.specs.Trail.{Trail, truth_in, level_in}
use Rattle.proof_check.specs.Named.{Named}
use Rattle.proof_check.specs.Values.{VarsDiffer}
use Rattle.conflict_analysis.specs.declared.marks.Mark.{Mark}
use Rattle.conflict_analysis.specs.declared.marks.Mark.TheVariants.{Blank, Met, Resolved, Kept}
use Rattle.conflict_analysis.specs.declared.work.Work.{Work}
use Rattle.conflict_analysis.specs.Marking.{mark_at}
use Rattle.conflict_analysis.specs.Reasons.{level_at, place_of}
use Rattle.conflict_analysis.specs.Learned.{Step, Derives, IsStep, step_lits, hints_of}
use Rattle.conflict_analysis.specs.Resolving.{Known}
use Rattle.conflict_analysis.specs.Collecting.{IsLeft}

-- there are marks for as many variables as levels
pub record IsWork (w : Work) : Type 0 where
  pub some : 0 < length w.met.cells
  pub levels : length w.levels.cells ≡ length w.met.cells
  pub minimiser : length w.minimiser.marks.cells ≡ length w.met.cells

-- marks of the walk
abbrev pub AreWalked : List Mark → Type 0
AreWalked cells = (v : ℕ) → (mark_at cells v ≡ Blank) ⊎ (mark_at cells v ≡ Met)
    ⊎ (mark_at cells v ≡ Resolved)

-- all is resolved that is to be, and the hints stand in their order
pub record IsDerived (entries : List Entry) (named : ℕ
    → Named) (spare : List Lit) (bound : ℕ) (conflict : Named) (cells : List Mark) (hints : List ℕ) : Type 0 where
  pub steps : List Step
  pub told : hints ≡ hints_of steps conflict
  pub derives : Derives (Known entries spare cells) steps conflict.lits
  pub of_trail : (s : Step) → Contains steps s → IsStep entries named s
  pub resolved : (s : Step) → Contains steps s → mark_at cells s.lit.var ≡ Resolved
  pub differ : VarsDiffer (step_lits steps)
  pub inside : (v : ℕ) → mark_at cells v ≢ Blank → place_of entries v < bound

-- what is met was met before, and is above level 0
abbrev pub AreFewer : List Entry → List Mark → List Mark → Type 0
AreFewer entries old new = (v : ℕ) → mark_at new v ≡ Met → (mark_at old v ≡ Met) × (1 ≤ level_at entries v)

-- all that is implied is resolved, and what was to stay is met
pub record IsEnded (entries : List Entry) (named : ℕ
    → Named) (spare : List Lit) (bound : ℕ) (conflict : Named) (cells minimiser new : List Mark) (hints : List ℕ)
    : Type 0 where
  pub derived : IsDerived entries named spare bound conflict new hints
  pub fewer : AreFewer entries cells new
  pub kept : (v : ℕ) → mark_at minimiser v ≡ Kept → mark_at new v ≡ Met

-- the literals of the clause are met
pub record IsLearning (t : Trail) (named : ℕ →
    Named) (conflict : Named) (cells : List Mark) (hints : List ℕ) (first : Lit) : Type 0 where
  pub derived : IsDerived t.entries named [] (length t.entries) conflict cells hints
  pub left : IsLeft t cells first.var
  pub is_false : truth_in t.entries first ≡ Some false
  pub now : level_in t.entries first.var ≡ Some t.level

-- the literals of a clause are false at level 0, but those of one variable
abbrev pub IsBottom : List Entry → ℕ → List Lit → Type 0
IsBottom entries over lits = (l : Lit) → Contains lits l → l.var ≢ over → (truth_in entries l ≡ Some false)
    × (level_in entries l.var ≡ Some 0)

-- the literals of one variable are spared, and those of the others stand before a bound
pub record IsSpared (entries : List Entry) (spare : List Lit) (bound over : ℕ) (lits : List Lit) : Type 0 where
  pub spared : (l : Lit) → Contains lits l → l.var ≡ over → Contains spare l
  pub before : (l : Lit) → Contains lits l → l.var ≢ over → place_of entries l.var < bound
