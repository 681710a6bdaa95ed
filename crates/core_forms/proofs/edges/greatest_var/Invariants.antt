use Rattle.std.proofs.Common.{◌≡◌, drop}
use Rattle.core_forms.specs.Edges.{greatest_var}
use Rattle.core_forms.proofs.edges.greatest_var.Given as goal

-- the greatest so far and of what is left is that of all
abbrev pub invariant-loop-step : goal.invariant-loop-step
invariant-loop-step l = greatest_var l.most (drop l.step-index l.steps) ≡ greatest_var l.fn.most l.steps
