use Rattle.std.proofs.Common.{◌≡◌, ◌++◌, map}
use Rattle.core_forms.specs.Contents.{ints_of}
use Rattle.core_forms.specs.declared.equation.Rule.TheVariants.{Order}
use Rattle.equation_runs.specs.RunRows.{equation_of, chains_of}
use Rattle.equation_runs.proofs.run.equations_in_turn.Given as goal

-- those so far and those of the integers that are left are all
abbrev pub invariant-loop-a : goal.invariant-loop-a
invariant-loop-a l = l.run.items ++ map (equation_of Order) (chains_of l.a-iterator) ≡ l.initial.run.items ++ map (equation_of Order) (chains_of (ints_of l.core))
