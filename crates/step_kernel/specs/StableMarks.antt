-- Marks of stable cores.
use Rattle.std.specs.Prelude.{◌≡◌, ℕ, ◌+◌, ◌-◌, ◌<◌, ◌≤◌, List, length, slice_index_or, slice_set, Option, None, Some}
use Rattle.order_ints.specs.declared.atom.Atom.{Atom}
use Rattle.core_forms.specs.declared.form.Core.{Core}
use Rattle.core_forms.specs.declared.edges.Edge.{Edge}
use Rattle.core_forms.specs.Edges.{settled_core, restored, IsStableInside, InsideBelow}
use Rattle.step_kernel.specs.Kernel.{core_at}

-- the round in which each place was marked, 0 where it never was; the round that counts; and a variable, than which
-- those inside of what is marked are no greater
pub record Rounds : Type 0 where
  pub rounds : List ℕ
  pub round : ℕ
  pub top : ℕ

-- there is a first round, and none is later than the one that counts
pub record AreRounds (marks : Rounds) : Type 0 where
  pub first : 1 ≤ marks.round
  pub last : (place : ℕ) → slice_index_or marks.rounds place 0 ≤ marks.round

-- a place is marked
abbrev pub IsMarked : Rounds → ℕ → Type 0
IsMarked marks place = slice_index_or marks.rounds place 0 ≡ marks.round

-- where a place is marked, there is a place for a core, and a core there is stable inside, with no variable there that
-- is greater than the one that is noted
abbrev pub AreStableMarks : List Atom → List (Option Core) → Rounds → Type 0
AreStableMarks view cores marks = (place : ℕ) → IsMarked marks place →
    (place < length cores)
    × ((core : Core) → slice_index_or cores place None ≡ Some core
    → IsStableInside view core × InsideBelow (marks.top + 1) core)

-- the pending core with an id is stable inside, with no variable there that is greater than the one that is noted
pub record IsInsideAt (view : List Atom) (cores : List (Option Core)) (marks : Rounds) (id : ℕ) : Type 0 where
  pub core : Core
  pub there : core_at cores id ≡ Some core
  pub inside : IsStableInside view core
  pub below : InsideBelow (marks.top + 1) core

-- and its edge was settled, in these cores, which are then those
pub record IsEdgeAt (view : List Atom) (cores now : List (Option Core)) (marks : Rounds) (id : ℕ)
    (edge : Edge) : Type 0 where
  pub at : IsInsideAt view cores marks id
  pub is : now ≡ slice_set cores (id - 1) (Some (settled_core view at.core))
  pub restored : restored edge (settled_core view at.core) ≡ at.core
