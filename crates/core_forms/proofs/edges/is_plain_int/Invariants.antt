use Rattle.std.proofs.Common.{drop}
use Rattle.core_forms.specs.Plain.{ArePlainBehind, IsPlainInt}
use Rattle.core_forms.proofs.edges.is_plain_int.Given as goal

-- where what is left is plain behind the last step, all steps are
abbrev pub invariant-loop-step : goal.invariant-loop-step
invariant-loop-step l = ArePlainBehind l.before (drop l.step-index l.steps) → IsPlainInt l.a
