use Rattle.std.proofs.Common.{◌≡◌, ◌++◌, map, length}
use Rattle.std.specs.Fmt.{decimal}
use Rattle.proof_check.specs.Lines.{Each, IsReadableId}
use Rattle.proof_check.proofs.read.read_ids.Given as goal

-- the words so far are those of what was read
abbrev pub invariant-loop-word : goal.invariant-loop-word
invariant-loop-word l = record {
  front : l.initial.words ≡ map decimal l.out.items ++ l.words;
  fits : Each IsReadableId l.out.items;
}

abbrev pub decreases-loop-word : goal.decreases-loop-word
decreases-loop-word l = length l.words
