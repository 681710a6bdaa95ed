use Rattle.std.proofs.Common.{◌≡◌, drop}
use Rattle.core_forms.specs.Edges.{has_var}
use Rattle.core_forms.proofs.edges.has_var.Given as goal

-- no step so far has the variable
abbrev pub invariant-loop-step : goal.invariant-loop-step
invariant-loop-step l = has_var l.var (drop l.step-index l.steps) ≡ has_var l.var l.steps
