use Rattle.std.proofs.Common.{◌≡◌, ◌+◌, ◌<◌, ◌^◌, drop, ◌+ℤ◌}
use Rattle.std.specs.Prelude.{unsigned_abs}
use Rattle.core_forms.specs.Values.{values, total}
use Rattle.core_forms.specs.WellFormed.{AreSound, abs_total}
use Rattle.core_forms.proofs.meaning.sums.total_value.Given as goal

-- what was added and what is left are the total, which stays within the limits
abbrev pub invariant-loop-a : goal.invariant-loop-a
invariant-loop-a g l = record {
  adds : l.added +ℤ total (values (g.T.TruthValues.valuation l.sigma) (drop l.a-index l.ints)) ≡ total (values (g.T.TruthValues.valuation l.sigma) l.ints);
  within : unsigned_abs l.added + abs_total (drop l.a-index l.ints) < 2 ^ 100;
  sound : AreSound (drop l.a-index l.ints);
}
