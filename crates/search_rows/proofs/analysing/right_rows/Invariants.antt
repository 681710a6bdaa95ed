use Rattle.std.proofs.Common.{◌≡◌}
use Rattle.search_rows.proofs.analysing.right_rows.Given as goal

-- the walker has room for so many variables
abbrev pub invariant-loop-k : goal.invariant-loop-k
invariant-loop-k l = l.walker.vars ≡ 9
