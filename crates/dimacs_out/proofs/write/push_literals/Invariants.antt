use Rattle.std.proofs.Common.{◌≡◌, ◌++◌, map, drop}
use Rattle.dimacs_out.specs.Written.{words_ended}
use Rattle.ledger_text.specs.Words.{literal_word}
use Rattle.dimacs_out.proofs.write.push_literals.Given as goal

-- what was written, and the literals that are left, are all that is to be written
abbrev pub invariant-loop-literal : goal.invariant-loop-literal
invariant-loop-literal l =
    l.out.items ++ words_ended (map literal_word (drop l.literal-index l.clause)) ≡ l.fn.out.items ++ words_ended (map literal_word l.clause)
