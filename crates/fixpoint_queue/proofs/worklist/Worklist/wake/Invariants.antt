use Rattle.std.proofs.Common.{◌≡◌, ℕ, ◌≤◌, ◌⊎◌, length}
use Rattle.std.specs.Prelude.{IfSome}
use Rattle.index_ring.specs.Lists.{times}
use Rattle.equation_store.specs.Class.{IsMember}
use Rattle.equation_store.specs.Store.{class_walk}
use Rattle.fixpoint_queue.specs.IdQueue.{IsIds}
use Rattle.fixpoint_queue.specs.Listed.{HasVar}
use Rattle.index_ring.specs.Lists.{rest_from}
use Rattle.fixpoint_queue.proofs.worklist.Worklist.wake.Given as goal

abbrev pub invariant-loop-next : goal.invariant-loop-next
invariant-loop-next l = record {
  places : l.self.queue.places ≡ l.fn.self.queue.places;
  occurs : l.self.occurs ≡ l.fn.self.occurs;
  marks : l.self.marks ≡ l.fn.self.marks;
  queued : IsIds l.self.queue;
  stays : (id : ℕ) → 1 ≤ times id l.fn.self.queue.queued → 1 ≤ times id l.self.queue.queued;
  only : (id : ℕ) → 1 ≤ times id l.self.queue.queued → (1 ≤ times id l.fn.self.queue.queued) ⊎ ((v : ℕ) × IsMember l.store.view l.label v × HasVar l.state id v);
  member : IfSome l.next (IsMember l.store.view l.label);
  woken : (v id : ℕ) → IsMember l.store.view l.label v → HasVar l.state id v → (1 ≤ times v (rest_from l.next (class_walk l.store l.label))) ⊎ (1 ≤ times id l.self.queue.queued);
}

abbrev pub decreases-loop-next : goal.decreases-loop-next
decreases-loop-next l = length (rest_from l.next (class_walk l.store l.label))
