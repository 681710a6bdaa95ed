use Rattle.std.proofs.Common.{◌≡◌, ◌++◌, map, take}
use Rattle.std.specs.Prelude.{reverse}
use Rattle.order_ints.specs.declared.atom.Atom.TheVariants.{True}
use Rattle.core_forms.specs.declared.equation.Rule.TheVariants.{Order}
use Rattle.equation_runs.specs.RunRows.{equation_of, behind}
use Rattle.equation_runs.proofs.ChainSteps.{left_behind}
use Rattle.equation_runs.proofs.chains.push_true_below.Given as goal

-- those so far and those of what is left are all
abbrev pub invariant-loop-i : goal.invariant-loop-i
invariant-loop-i l =
    l.run.items ++ map (equation_of Order) (left_behind l.met True (reverse (take l.i l.steps)))
    ≡ l.initial.run.items ++ map (equation_of Order) (behind True (reverse l.a.steps))
