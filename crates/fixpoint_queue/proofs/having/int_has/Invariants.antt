use Rattle.std.proofs.Common.{◌≡◌, drop}
use Rattle.std.specs.Prelude.{◌==◌}
use Rattle.std.specs.List.{list_any}
use Rattle.core_forms.specs.Variables.{steps_vars}
use Rattle.fixpoint_queue.proofs.having.int_has.Given as goal

-- none of those so far has it
abbrev pub invariant-loop-step : goal.invariant-loop-step
invariant-loop-step l = list_any (λ w. w == l.var) (steps_vars (drop l.step-index l.step-items)) ≡ list_any (λ w. w == l.var) (steps_vars l.step-items)
