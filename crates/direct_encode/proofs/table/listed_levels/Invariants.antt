use Rattle.std.proofs.Common.{◌≡◌, ◌++◌}
use Rattle.order_ints.specs.OrderLevels.{levels_of}
use Rattle.direct_encode.proofs.table.listed_levels.Given as goal

-- those so far and those that are left are all
abbrev pub invariant-loop-level : goal.invariant-loop-level
invariant-loop-level l = l.levels.items ++ l.level-iterator ≡ levels_of l.int
