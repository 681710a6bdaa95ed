use Rattle.std.proofs.Common.{◌≡◌, length}
use Rattle.fixpoint_queue.specs.Standing.{ArePending}
use Rattle.fixpoint_queue.proofs.worklist.Worklist.enter_state.Given as goal

abbrev pub invariant-loop-before : goal.invariant-loop-before
invariant-loop-before l = record {
  pending : ArePending l.state.cores l.before l.self.occurs l.self.queue;
  lists : length l.self.occurs.lists ≡ length l.fn.self.occurs.lists;
  ids : l.self.occurs.ids ≡ l.fn.self.occurs.ids;
  places : l.self.queue.places ≡ l.fn.self.queue.places;
  marks : l.self.marks ≡ l.fn.self.marks;
}
