use Rattle.std.proofs.Common.{◌≡◌, ◌++◌, map, length}
use Rattle.bee_text.specs.Lines.{join_lines}
use Rattle.weigh_mode.specs.WeighingText.{item_line}
use Rattle.weigh_mode.proofs.weighing_lines.push_items.Given as goal

-- what was written, and the lines that are left, are all that is to be written
abbrev pub invariant-loop-rest : goal.invariant-loop-rest
invariant-loop-rest l =
    l.out.items ++ join_lines (map (item_line l.total) l.rest) ≡ l.fn.out.items ++ join_lines (map (item_line l.total) l.items)

abbrev pub decreases-loop-rest : goal.decreases-loop-rest
decreases-loop-rest l = length l.rest
