use Rattle.std.proofs.Common.{◌≡◌, ◌+◌, ◌++◌, map, drop}
use Rattle.bee_text.specs.Words.{words_behind}
use Rattle.ledger_text.specs.Words.{literal_word}
use Rattle.sat_mode.specs.Texts.{literals_from}
use Rattle.sat_mode.proofs.writing.push_values.Given as goal

-- what was written and what is left
abbrev pub invariant-loop-i : goal.invariant-loop-i
invariant-loop-i l =
    l.out.items ++ words_behind (map literal_word (literals_from (l.i + 1) (drop l.i l.values))) ≡ l.initial.out.items ++ words_behind (map literal_word (literals_from 1 l.values))
