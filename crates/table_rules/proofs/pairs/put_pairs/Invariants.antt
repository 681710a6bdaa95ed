use Rattle.std.proofs.Common.{◌≡◌, ◌++◌, drop}
use Rattle.table_rules.specs.Pairs.{pairs_with}
use Rattle.table_rules.proofs.pairs.put_pairs.Given as goal

-- those so far and those of the variables that are left are all
abbrev pub invariant-loop-var : goal.invariant-loop-var
invariant-loop-var l = l.pairs.items ++ pairs_with l.a (drop l.var-index l.vars) ≡ l.initial.pairs.items ++ pairs_with l.a l.vars
