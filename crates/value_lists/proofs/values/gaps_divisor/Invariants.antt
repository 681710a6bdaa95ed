use Rattle.std.proofs.Common.{◌≡◌, ◌-◌, drop}
use Rattle.value_lists.specs.ValueLists.{divisor_of}
use Rattle.value_lists.proofs.values.gaps_divisor.Given as goal

-- the divisor of the gaps behind the value before
abbrev pub invariant-loop-i : goal.invariant-loop-i
invariant-loop-i l = l.divisor ≡ divisor_of (drop (l.i - 1) l.values)
