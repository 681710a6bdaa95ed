use Rattle.std.proofs.Common.{◌≡◌, ◌++◌, map, drop}
use Rattle.core_forms.specs.declared.equation.Rule.TheVariants.{Form}
use Rattle.equation_runs.specs.RunRows.{equation_of}
use Rattle.equation_runs.proofs.opposites.push_pairs.Given as goal

-- those so far and those of what is left are all
abbrev pub invariant-loop-pair : goal.invariant-loop-pair
invariant-loop-pair l =
    l.run.items ++ map (equation_of Form) (drop l.pair-index l.pairs) ≡ l.initial.run.items ++ map (equation_of Form) l.pairs
