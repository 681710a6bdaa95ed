use Rattle.std.proofs.Common.{◌≡◌, ◌++◌, map, drop}
use Rattle.proof_check.specs.Lines.{literal_word}
use Rattle.bee_text.specs.Words.{words_behind}
use Rattle.proof_check.proofs.write.push_literals.Given as goal

-- what was written and what is left
abbrev pub invariant-loop-lit : goal.invariant-loop-lit
invariant-loop-lit l = l.out.items ++ words_behind (map literal_word (drop l.lit-index l.lits)) ≡ l.initial.out.items ++ words_behind (map literal_word l.lits)
