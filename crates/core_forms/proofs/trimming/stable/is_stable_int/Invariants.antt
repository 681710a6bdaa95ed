use Rattle.std.proofs.Common.{drop}
use Rattle.core_forms.specs.Stable.{AreStableBehind, IsStableInt}
use Rattle.core_forms.proofs.trimming.stable.is_stable_int.Given as goal

-- where what is left is stable behind the last step, all steps are
abbrev pub invariant-loop-step : goal.invariant-loop-step
invariant-loop-step l = AreStableBehind l.view l.before (drop l.step-index l.steps) → IsStableInt l.view l.a
