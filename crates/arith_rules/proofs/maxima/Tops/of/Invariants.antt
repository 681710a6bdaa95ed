use Rattle.std.proofs.Common.{◌≡◌, drop}
use Rattle.core_forms.specs.WellFormed.{AreSound}
use Rattle.arith_rules.specs.Tops.{tops_from, tops_of, AreSmall}
use Rattle.arith_rules.proofs.maxima.Tops.of.Given as goal

-- those so far with those of what is left are those of all
abbrev pub invariant-loop-a : goal.invariant-loop-a
invariant-loop-a l = record {
  tops : tops_from l.tops (drop l.a-index l.ints) ≡ tops_of l.ints;
  small : AreSmall l.tops;
  sound : AreSound (drop l.a-index l.ints);
}
