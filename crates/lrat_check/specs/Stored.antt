-- What the store of a proof keeps, and what its answers tell.
use Rattle.std.specs.Prelude.{◌≡◌, ℕ, ◌+◌, Bool, true, false, List, [], ◌∷◌}
use Rattle.order_ints.specs.declared.cnf.Cnf.{Cnf}
use Rattle.order_ints.specs.Place.{ClauseBelow}
use Rattle.lrat_check.specs.declared.follow.Step.{Step}
use Rattle.lrat_check.specs.declared.follow.Step.TheVariants.{Fails, Ends, Tells, Passes}
use Rattle.lrat_check.specs.declared.store.LratStore.{LratStore}
use Rattle.lrat_check.specs.declared.check.LratEnd.{LratEnd}
use Rattle.lrat_check.specs.declared.check.LratEnd.TheVariants as end
use Rattle.lrat_check.specs.Hints.{Added}
use Rattle.lrat_check.specs.LratLines.{SoFar, IsLrat, LratFails}

-- each literal of each added clause is below n
abbrev pub AddedBelow : ℕ → Added → Type 0
AddedBelow n [] = Unit {0}
AddedBelow n (c ∷ cs) = ClauseBelow n c.1 × AddedBelow n cs

-- what is told of hints by one of them, before what the others tell
abbrev pub told : Step → Bool → Bool
told Fails next = false
told Ends next = true
told Tells next = next
told Passes next = next

-- what a store has so far
abbrev pub so_far : LratStore → SoFar
so_far s = record { added = s.added.entries; refuted = s.refuted }

-- between two lines no literal is true
pub record Holds (cnf : Cnf) (s : LratStore) : Type 0 where
  pub vars : s.trail.vars ≡ cnf.vars
  pub free : s.trail.entries ≡ []
  pub below : AddedBelow (cnf.vars + 1) s.added.entries

-- a proof where the empty clause was added, or the line behind the last
abbrev pub IsEnded : Bool → ℕ → LratEnd → Type 0
IsEnded refuted read (end.Proof lines) = refuted ≡ true
IsEnded refuted read (end.Refused line) = (refuted ≡ false) × (line ≡ read + 1)

-- what a text is
abbrev pub IsLratEnd : Cnf → List ℕ → LratEnd → Type 0
IsLratEnd cnf text (end.Proof lines) = IsLrat cnf text
IsLratEnd cnf text (end.Refused line) = LratFails cnf text line
