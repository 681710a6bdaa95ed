use Rattle.std.proofs.Common.{◌≡◌, ◌+◌, ◌<◌, ◌^◌, drop}
use Rattle.fixpoint_queue.specs.Standing.{all_counted}
use Rattle.fixpoint_queue.proofs.room.number_of.Given as goal

abbrev pub invariant-loop-vars : goal.invariant-loop-vars
invariant-loop-vars l = record {
  counted : l.number + all_counted (drop l.vars-index l.lists) ≡ all_counted l.fn.lists;
  small : l.number < 2 ^ 31;
}
