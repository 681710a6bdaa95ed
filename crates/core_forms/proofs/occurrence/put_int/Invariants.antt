use Rattle.std.proofs.Common.{◌≡◌, ◌++◌, drop}
use Rattle.core_forms.specs.Variables.{steps_vars}
use Rattle.core_forms.proofs.occurrence.put_int.Given as goal

-- those so far and those of what is left are all
abbrev pub invariant-loop-step : goal.invariant-loop-step
invariant-loop-step l = l.vars.items ++ steps_vars (drop l.step-index l.step-items) ≡ l.initial.vars.items ++ steps_vars l.step-items
