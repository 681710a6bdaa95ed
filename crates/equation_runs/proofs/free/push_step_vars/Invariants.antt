use Rattle.std.proofs.Common.{◌≡◌, ◌++◌, drop}
use Rattle.equation_runs.specs.FreeAtoms.{vars_of, step_atoms}
use Rattle.equation_runs.proofs.free.push_step_vars.Given as goal

-- those so far and those of what is left are all
abbrev pub invariant-loop-step : goal.invariant-loop-step
invariant-loop-step l = l.vars.items ++ vars_of (step_atoms (drop l.step-index l.step-items)) ≡ l.initial.vars.items ++ vars_of (step_atoms l.a.steps)
