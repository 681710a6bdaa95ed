use Rattle.std.proofs.Common.{◌≡◌, ◌++◌, map, drop}
use Rattle.core_forms.specs.declared.equation.Rule.TheVariants.{Form}
use Rattle.core_forms.specs.WellFormed.{AreSound}
use Rattle.arith_rules.specs.Tops.{leaders_above}
use Rattle.equation_runs.specs.RunRows.{equation_of}
use Rattle.equation_runs.proofs.maxima.push_leaders_above.Given as goal

-- those so far and those of the members that are left are all
abbrev pub invariant-loop-a : goal.invariant-loop-a
invariant-loop-a l = record {
  run : l.run.items ++ map (equation_of Form) (leaders_above l.least l.c (drop l.a-index l.ints)) ≡ l.initial.run.items ++ map (equation_of Form) (leaders_above l.least l.c l.ints);
  sound : AreSound (drop l.a-index l.ints);
}
