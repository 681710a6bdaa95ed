use Rattle.std.proofs.Common.{drop}
use Rattle.core_forms.specs.Stable.{AreStableInts}
use Rattle.core_forms.proofs.trimming.stable.are_stable_ints.Given as goal

-- where what is left is stable, all is
abbrev pub invariant-loop-a : goal.invariant-loop-a
invariant-loop-a l = AreStableInts l.view (drop l.a-index l.ints) → AreStableInts l.view l.ints
