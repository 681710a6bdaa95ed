use Rattle.std.proofs.Common.{◌≡◌, ◌+◌, ◌≤◌, ◌+ℤ◌, drop}
use Rattle.std.specs.Prelude.{unsigned_abs}
use Rattle.core_forms.specs.WellFormed.{AreSound, abs_total}
use Rattle.arith_rules.specs.SumRows.{lows_of, highs_of}
use Rattle.arith_rules.proofs.sums.totals.Given as goal

-- those so far and those of what is left are all
abbrev pub invariant-loop-a : goal.invariant-loop-a
invariant-loop-a l = record {
  low : l.low +ℤ lows_of (drop l.a-index l.ints) ≡ lows_of l.ints;
  high : l.high +ℤ highs_of (drop l.a-index l.ints) ≡ highs_of l.ints;
  low_fits : unsigned_abs l.low + abs_total (drop l.a-index l.ints) ≤ abs_total l.ints;
  high_fits : unsigned_abs l.high + abs_total (drop l.a-index l.ints) ≤ abs_total l.ints;
  sound : AreSound (drop l.a-index l.ints);
}
