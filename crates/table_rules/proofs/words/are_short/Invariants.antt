use Rattle.std.proofs.Common.{◌≡◌, drop}
use Rattle.table_rules.specs.Words.{are_short}
use Rattle.table_rules.proofs.words.are_short.Given as goal

-- what is left decides
abbrev pub invariant-loop-a : goal.invariant-loop-a
invariant-loop-a l = are_short (drop l.a-index l.ints) ≡ are_short l.ints
