use Rattle.std.proofs.Common.{◌≡◌, ◌++◌}
use Rattle.core_forms.specs.Contents.{atoms_of}
use Rattle.core_forms.specs.Variables.{atoms_vars}
use Rattle.core_forms.proofs.occurrence.put_atoms.Given as goal

-- those so far and those of what is left are all
abbrev pub invariant-loop-atom : goal.invariant-loop-atom
invariant-loop-atom l = l.vars.items ++ atoms_vars l.atom-iterator ≡ l.initial.vars.items ++ atoms_vars (atoms_of l.core)
