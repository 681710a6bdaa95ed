use Rattle.std.proofs.Common.{◌-◌, ◌<◌, ◌≤◌, length, ◌<ℤ◌, ◌≤ℤ◌}
use Rattle.direct_encode.specs.Search.{value_of_level}
use Rattle.direct_encode.proofs.table.first_reaching.Given as goal

-- before what is left v is not reached, and behind it it is
abbrev pub invariant-loop-low : goal.invariant-loop-low
invariant-loop-low l = record {
  range : (l.low ≤ l.high) × (l.high ≤ length l.levels);
  before : 0 < l.low → value_of_level l.levels (l.low - 1) <ℤ l.v;
  behind : l.high < length l.levels → l.v ≤ℤ value_of_level l.levels l.high;
}

abbrev pub decreases-loop-low : goal.decreases-loop-low
decreases-loop-low l = l.high - l.low
