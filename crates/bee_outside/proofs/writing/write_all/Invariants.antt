use Rattle.std.proofs.Common.{◌≡◌, ◌≤◌, ◌-◌, length, take}
use Rattle.bee_outside.specs.Bytes.{grown}
use Rattle.bee_outside.proofs.writing.write_all.Given as goal

abbrev pub invariant-loop-done : goal.invariant-loop-done
invariant-loop-done g l = record {
  within : l.done ≤ length l.text;
  no_fault : g.O.Sink.faults l.sink ≡ g.O.Sink.faults l.initial.sink;
  written : g.O.Sink.taken l.sink ≡ grown (g.O.Sink.taken l.initial.sink) (take l.done l.text);
}

abbrev pub decreases-loop-done : goal.decreases-loop-done
decreases-loop-done g l = length l.text - l.done
