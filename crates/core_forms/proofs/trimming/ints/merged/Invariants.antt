use Rattle.std.proofs.Common.{◌≡◌, ◌+◌, ◌<◌, ◌^◌, ◌++◌, drop}
use Rattle.order_ints.specs.View.{resolve}
use Rattle.order_ints.specs.OrderRange.{weights}
use Rattle.core_forms.specs.Resolved.{map_steps}
use Rattle.core_forms.specs.Trimmed.{merged_steps}
use Rattle.core_forms.proofs.trimming.ints.merged.Given as goal

-- the steps so far, and the last one with what is left, make all
abbrev pub invariant-loop-step : goal.invariant-loop-step
invariant-loop-step l = record {
  steps : l.steps.items ++ merged_steps l.atom l.weight (map_steps (resolve l.view) (drop l.step-index l.rest)) ≡ merged_steps l.fn.first l.fn.least (map_steps (resolve l.view) l.rest);
  fits : l.weight + weights (drop l.step-index l.rest) < 2 ^ 128;
}
