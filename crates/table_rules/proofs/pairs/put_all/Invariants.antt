use Rattle.std.proofs.Common.{◌≡◌, ◌++◌, length}
use Rattle.table_rules.specs.Pairs.{pairs_among}
use Rattle.table_rules.proofs.pairs.put_all.Given as goal

-- those so far and those of the variables that are left are all
abbrev pub invariant-loop-var : goal.invariant-loop-var
invariant-loop-var l = l.pairs.items ++ pairs_among l.rest ≡ l.initial.pairs.items ++ pairs_among l.vars

abbrev pub decreases-loop-var : goal.decreases-loop-var
decreases-loop-var l = length l.rest
