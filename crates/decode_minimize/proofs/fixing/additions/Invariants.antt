use Rattle.std.proofs.Common.{◌≡◌, ◌+◌, ◌≤◌, drop}
use Rattle.learning_solver.specs.Log.{additions}
use Rattle.decode_minimize.proofs.fixing.additions.Given as goal

-- those so far and those of the lines left are all
abbrev pub invariant-loop-line : goal.invariant-loop-line
invariant-loop-line l = record {
  sum : l.count + additions (drop l.line-index l.lines) ≡ additions l.lines;
  few : l.count ≤ l.line-index;
}
