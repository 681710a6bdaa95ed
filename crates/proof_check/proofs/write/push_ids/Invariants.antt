use Rattle.std.proofs.Common.{◌≡◌, ◌++◌, map, drop}
use Rattle.std.specs.Fmt.{decimal}
use Rattle.bee_text.specs.Words.{words_behind}
use Rattle.proof_check.proofs.write.push_ids.Given as goal

-- what was written and what is left
abbrev pub invariant-loop-id : goal.invariant-loop-id
invariant-loop-id l = l.out.items ++ words_behind (map decimal (drop l.id-index l.ids)) ≡ l.initial.out.items ++ words_behind (map decimal l.ids)
