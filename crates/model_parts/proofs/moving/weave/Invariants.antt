use Rattle.std.proofs.Common.{◌≡◌, ◌++◌, drop}
use Rattle.std.specs.Prelude.{reverse}
use Rattle.model_parts.specs.Sides.{woven}
use Rattle.model_parts.proofs.moving.weave.Given as goal

-- the statements so far, and those that are left on both sides, are the whole
abbrev pub invariant-loop-mark : goal.invariant-loop-mark
invariant-loop-mark l =
    l.all.items ++ woven (drop l.mark-index l.marks) (reverse l.kept.items) (reverse l.left.items) ≡ woven l.marks l.fn.kept.items l.fn.left.items
