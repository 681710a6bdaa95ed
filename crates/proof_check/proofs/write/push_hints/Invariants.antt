use Rattle.std.proofs.Common.{◌≡◌, ◌++◌, map, drop}
use Rattle.std.specs.Fmt.{signed_decimal}
use Rattle.bee_text.specs.Words.{words_behind}
use Rattle.proof_check.proofs.write.push_hints.Given as goal

-- what was written and what is left
abbrev pub invariant-loop-hint : goal.invariant-loop-hint
invariant-loop-hint l = l.out.items ++ words_behind (map signed_decimal (drop l.hint-index l.hints)) ≡ l.initial.out.items ++ words_behind (map signed_decimal l.hints)
