use Rattle.std.proofs.Common.{◌≡◌, drop}
use Rattle.core_forms.specs.Variables.{steps_vars}
use Rattle.core_forms.specs.OwnVars.{with_vars}
use Rattle.core_forms.proofs.few.FewVars.put_int.Given as goal

-- those so far, with those of the steps that are left, are all
abbrev pub invariant-loop-step : goal.invariant-loop-step
invariant-loop-step l = with_vars (steps_vars (drop l.step-index l.step-items)) l.self ≡ with_vars (steps_vars l.step-items) l.initial.self
