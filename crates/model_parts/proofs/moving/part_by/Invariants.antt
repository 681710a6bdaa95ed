use Rattle.std.proofs.Common.{◌≡◌, ◌++◌, drop}
use Rattle.std.specs.Prelude.{reverse}
use Rattle.model_parts.specs.Sides.{kept_of, left_of}
use Rattle.model_parts.proofs.moving.part_by.Given as goal

-- what is on a side, and what comes there of the statements that are left, are the whole side
abbrev pub invariant-loop-mark : goal.invariant-loop-mark
invariant-loop-mark l = record {
  kept : l.kept.items ++ kept_of (drop l.mark-index l.marks) (reverse l.stmts.items) ≡ kept_of l.marks l.fn.stmts.items;
  left : l.left.items ++ left_of (drop l.mark-index l.marks) (reverse l.stmts.items) ≡ left_of l.marks l.fn.stmts.items;
}
