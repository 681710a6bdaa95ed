use Rattle.std.proofs.Common.{◌≡◌, ℕ, ◌≤◌, ◌<◌, ◌⊎◌, get_or}
use Rattle.index_ring.specs.Lists.{times}
use Rattle.fixpoint_queue.specs.IdQueue.{IsIds}
use Rattle.fixpoint_queue.specs.Listed.{HasVar}
use Rattle.fixpoint_queue.proofs.wake.put_all_having.Given as goal

abbrev pub invariant-loop-id : goal.invariant-loop-id
invariant-loop-id l = record {
  places : l.ids.places ≡ l.fn.ids.places;
  queued : IsIds l.ids;
  stays : (i : ℕ) → 1 ≤ times i l.fn.ids.queued → 1 ≤ times i l.ids.queued;
  only : (i : ℕ) → 1 ≤ times i l.ids.queued → (1 ≤ times i l.fn.ids.queued) ⊎ HasVar l.state i l.var;
  woken : (k : ℕ) → k < l.id-index → HasVar l.state (get_or l.coming k 0) l.var → 1 ≤ times (get_or l.coming k 0) l.ids.queued;
}
