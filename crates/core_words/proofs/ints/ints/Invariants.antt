use Rattle.std.proofs.Common.{◌*◌, ◌≤◌, length}
use Rattle.core_forms.specs.WellFormed.{AreSound, abs_total}
use Rattle.core_words.proofs.ints.ints.Given as goal

-- what has been read is sound and small
abbrev pub invariant-loop-member : goal.invariant-loop-member
invariant-loop-member l = record {
  sound : AreSound l.ints.items;
  small : abs_total l.ints.items ≤ 1000 * length l.ints.items;
}
