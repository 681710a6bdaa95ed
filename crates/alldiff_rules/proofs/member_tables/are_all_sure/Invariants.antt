use Rattle.std.proofs.Common.{◌≡◌, drop}
use Rattle.alldiff_rules.specs.RowLists.{are_all_sure}
use Rattle.alldiff_rules.proofs.member_tables.are_all_sure.Given as goal

-- what is left decides
abbrev pub invariant-loop-condition : goal.invariant-loop-condition
invariant-loop-condition l = are_all_sure (drop l.condition-index l.conditions) ≡ are_all_sure l.conditions
