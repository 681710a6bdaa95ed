use Rattle.std.proofs.Common.{◌≡◌, length}
use Rattle.table_rules.proofs.words.is_told_somewhere.Given as goal

-- the row is as long as the variables
abbrev pub invariant-loop-number : goal.invariant-loop-number
invariant-loop-number l = length l.values ≡ length l.vars
