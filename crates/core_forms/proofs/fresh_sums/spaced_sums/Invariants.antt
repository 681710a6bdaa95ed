use Rattle.std.proofs.Common.{◌≡◌, ◌+◌, ◌-◌, ◌*◌, ◌++◌, ◌≤◌, pos, ◌+ℤ◌}
use Rattle.core_forms.specs.Sums.{spaced}
use Rattle.core_forms.proofs.fresh_sums.spaced_sums.Given as goal

-- those so far and those of what is left are all
abbrev pub invariant-loop : goal.invariant-loop
invariant-loop l = record {
  value : l.value ≡ l.low +ℤ pos (l.counter * l.gap);
  most : l.counter ≤ l.gaps;
  sums : l.sums.items ++ spaced (l.value +ℤ pos l.gap) l.gap (l.gaps - l.counter) ≡ spaced l.low l.gap (l.gaps + 1);
}
