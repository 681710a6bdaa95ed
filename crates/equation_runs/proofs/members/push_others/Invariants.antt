use Rattle.std.proofs.Common.{◌≡◌, true, ◌||◌, ◌++◌, map, drop}
use Rattle.order_ints.specs.declared.atom.Atom.TheVariants.{False}
use Rattle.core_forms.specs.declared.equation.Rule.TheVariants.{Form}
use Rattle.core_forms.specs.Trimmed.{has_true}
use Rattle.rule_base.specs.Stated.{all_equal}
use Rattle.equi_rules.specs.AtomRows.{amo_equations}
use Rattle.equation_runs.specs.RunRows.{equation_of}
use Rattle.equation_runs.proofs.MemberSteps.{left_beside}
use Rattle.equation_runs.proofs.members.push_others.Given as goal

-- those so far and those of what is left are all; the first True member was met, or is left
abbrev pub invariant-loop-atom : goal.invariant-loop-atom
invariant-loop-atom l = record {
  run : l.run.items ++ map (equation_of Form) (all_equal (left_beside l.met (drop l.atom-index l.atoms)) False) ≡ l.initial.run.items ++ map (equation_of Form) (amo_equations l.atoms);
  some : (l.met || has_true (drop l.atom-index l.atoms)) ≡ true;
}
