use Rattle.std.proofs.Common.{◌≡◌, ◌≢◌, length}
use Rattle.bee_text.specs.Lines.{lines_of}
use Rattle.line_texts.proofs.ReadTo.{ReadTo}
use Rattle.conflict_text.specs.ConflictLines.{IsNext}
use Rattle.conflict_check.specs.declared.head.Stage.TheVariants as stage
use Rattle.conflict_check.specs.Heads.{head_standing, IsWalked}
use Rattle.conflict_check.proofs.head.read_head.Given as goal

-- the lines that are read lead to what was told, and more are wanted
abbrev pub invariant-loop-line : goal.invariant-loop-line
invariant-loop-line l = record {
  count : l.lines.read ≡ l.read;
  read : ReadTo IsNext (head_standing l.model l.initial.head) l.initial.lines.rest l.lines.rest l.read (head_standing l.model l.head);
  wanted : l.head.stage ≢ stage.Done;
  walked : IsWalked l.model l.head;
}

abbrev pub decreases-loop-line : goal.decreases-loop-line
decreases-loop-line l = length (lines_of l.lines.rest)
