use Rattle.std.proofs.Common.{drop}
use Rattle.core_forms.specs.Stable.{AreStable}
use Rattle.core_forms.proofs.trimming.stable.are_stable.Given as goal

-- where what is left is stable, all is
abbrev pub invariant-loop-atom : goal.invariant-loop-atom
invariant-loop-atom l = AreStable l.view (drop l.atom-index l.atoms) → AreStable l.view l.atoms
