use Rattle.std.proofs.Common.{◌≡◌, ◌+◌, ◌≤◌, drop}
use Rattle.fixpoint_queue.specs.Standing.{all_counted, AreEntered}
use Rattle.fixpoint_queue.proofs.worklist.Worklist.enter_all.Given as goal

abbrev pub invariant-loop-vars : goal.invariant-loop-vars
invariant-loop-vars l = record {
  id : l.id ≡ l.before + l.vars-index;
  entered : AreEntered l.held l.state.cores l.before l.vars-index l.fn.self.occurs l.self.occurs l.fn.self.queue l.self.queue;
  marks : l.self.marks ≡ l.fn.self.marks;
  room : all_counted (drop l.vars-index l.lists) ≤ l.self.occurs.room;
}
