-- What contracts see of a queue of ids.
use Rattle.std.specs.Prelude.{◌≡◌, ◌⊎◌, ℕ, ◌^◌, ◌<◌, ◌≤◌, List, ◌++◌, length}
use Rattle.index_ring.specs.Lists.{RingLists, IsRings, list_of, times}

-- the ids in the queue, in order, and how many places for ids there are
pub record Ids : Type 0 where
  pub queued : List ℕ
  pub places : ℕ

-- each id is in the queue once at most, and has a place, of which there are fewer than 2 ^ 31
pub record IsIds (ids : Ids) : Type 0 where
  pub once : (id : ℕ) → times id ids.queued ≤ 1
  pub placed : (id : ℕ) → 1 ≤ times id ids.queued → id < ids.places
  pub small : ids.places < 2 ^ 31

-- one queue has what another one had, and one id more, unless it was there
pub record IsPut (old : Ids) (id : ℕ) (new : Ids) : Type 0 where
  pub places : new.places ≡ old.places
  pub has : 1 ≤ times id new.queued
  pub stays : (other : ℕ) → 1 ≤ times other old.queued → 1 ≤ times other new.queued
  pub only : (other : ℕ) → 1 ≤ times other new.queued → (1 ≤ times other old.queued) ⊎ (other ≡ id)

-- the queue of two rings, one behind the other
abbrev pub ids_of : RingLists → Ids
ids_of rings = record { queued = list_of rings 0 ++ list_of rings 1; places = rings.nodes }

-- there are two rings
pub record AreQueueRings (both : RingLists) : Type 0 where
  pub rings : IsRings both
  pub two : length both.lists ≡ 2
