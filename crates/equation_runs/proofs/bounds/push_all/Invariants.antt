use Rattle.std.proofs.Common.{◌≡◌, ◌++◌, map, drop}
use Rattle.core_forms.specs.declared.equation.Rule.TheVariants.{Form}
use Rattle.rule_base.specs.Stated.{all_equal}
use Rattle.equation_runs.specs.RunRows.{equation_of}
use Rattle.equation_runs.proofs.bounds.push_all.Given as goal

-- those so far and those of what is left are all
abbrev pub invariant-loop-atom : goal.invariant-loop-atom
invariant-loop-atom l =
    l.run.items ++ map (equation_of Form) (all_equal (drop l.atom-index l.atoms) l.constant) ≡ l.initial.run.items ++ map (equation_of Form) (all_equal l.atoms l.constant)
