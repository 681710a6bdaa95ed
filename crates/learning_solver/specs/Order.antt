-- What the order of decisions keeps: a ring with each variable.
use Rattle.std.specs.Prelude.{◌≡◌, ◌≢◌, ℕ, ◌+◌, ◌≤◌, List, length, None}
use Rattle.index_ring.specs.Lists.{RingLists, IsRings, IsFree, Stands}
use Rattle.literal_trail.specs.Trail.{Trail, entry_of}

-- one ring, in which each variable stands
pub record IsRing (vars : ℕ) (ring : RingLists) : Type 0 where
  pub rings : IsRings ring
  pub one : length ring.lists ≡ 1
  pub nodes : ring.nodes ≡ vars + 1
  pub all : (v : ℕ) → 1 ≤ v → v ≤ vars → Stands ring 0 v
  pub others : IsFree ring 0

-- and an activity for each; the search for a free one begins at one of them, or at the front
pub record IsOrder (vars : ℕ) (ring : RingLists) (activity : List ℕ) (start : ℕ) : Type 0 where
  pub ringed : IsRing vars ring
  pub activities : length activity ≡ vars + 1
  pub started : start ≤ vars

-- a variable has no entry
pub record IsFreeIn (t : Trail) (v : ℕ) : Type 0 where
  pub low : 1 ≤ v
  pub high : v ≤ t.vars
  pub free : entry_of t.entries v ≡ None

-- each variable has an entry
abbrev pub AllGiven : Trail → Type 0
AllGiven t = (v : ℕ) → 1 ≤ v → v ≤ t.vars → entry_of t.entries v ≢ None
