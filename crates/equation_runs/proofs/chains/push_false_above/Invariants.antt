use Rattle.std.proofs.Common.{◌≡◌, ◌++◌, map, drop}
use Rattle.order_ints.specs.declared.atom.Atom.TheVariants.{False}
use Rattle.core_forms.specs.declared.equation.Rule.TheVariants.{Order}
use Rattle.equation_runs.specs.RunRows.{equation_of, behind}
use Rattle.equation_runs.proofs.ChainSteps.{left_behind}
use Rattle.equation_runs.proofs.chains.push_false_above.Given as goal

-- those so far and those of what is left are all
abbrev pub invariant-loop-step : goal.invariant-loop-step
invariant-loop-step l =
    l.run.items ++ map (equation_of Order) (left_behind l.met False (drop l.step-index l.step-items))
    ≡ l.initial.run.items ++ map (equation_of Order) (behind False l.a.steps)
