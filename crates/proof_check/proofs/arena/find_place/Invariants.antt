use Rattle.std.proofs.Common.{◌≤◌, ◌<◌, ◌-◌, ℕ, length, get_or}
use Rattle.proof_check.specs.Arena.{place_ids}
use Rattle.proof_check.proofs.arena.find_place.Given as goal

-- before `low` ids are smaller, and from `high` on greater
abbrev pub invariant-loop-low : goal.invariant-loop-low
invariant-loop-low l = record {
  within : l.high ≤ length l.places;
  smaller : (i : ℕ) → i < l.low → get_or (place_ids l.places) i 0 < l.id;
  greater : (i : ℕ) → l.high ≤ i → i < length l.places → l.id < get_or (place_ids l.places) i 0;
}

abbrev pub decreases-loop-low : goal.decreases-loop-low
decreases-loop-low l = l.high - l.low
