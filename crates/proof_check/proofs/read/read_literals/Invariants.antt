use Rattle.std.proofs.Common.{◌≡◌, ◌++◌, map, length}
use Rattle.proof_check.specs.Lines.{literal_word, Each, IsReadableLit}
use Rattle.proof_check.proofs.read.read_literals.Given as goal

-- the words so far are those of what was read
abbrev pub invariant-loop-word : goal.invariant-loop-word
invariant-loop-word l = record {
  front : l.initial.words ≡ map literal_word l.out.items ++ l.words;
  fits : Each IsReadableLit l.out.items;
}

abbrev pub decreases-loop-word : goal.decreases-loop-word
decreases-loop-word l = length l.words
