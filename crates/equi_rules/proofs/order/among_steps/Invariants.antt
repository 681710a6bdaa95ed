use Rattle.std.proofs.Common.{◌≡◌, drop}
use Rattle.rule_base.specs.Pairs.{first_sought}
use Rattle.equi_rules.specs.OrderRows.{equations_above}
use Rattle.equi_rules.proofs.order.among_steps.Given as goal

-- what is found from here on is found of all
abbrev pub invariant-loop-step : goal.invariant-loop-step
invariant-loop-step l =
    first_sought l.sought (equations_above l.lower (drop l.step-index l.above)) ≡ first_sought l.sought (equations_above l.initial.lower l.above)
