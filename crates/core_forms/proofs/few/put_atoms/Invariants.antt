use Rattle.std.proofs.Common.{◌≡◌}
use Rattle.core_forms.specs.Variables.{atoms_vars}
use Rattle.core_forms.specs.OwnVars.{with_vars}
use Rattle.core_forms.proofs.few.put_atoms.Given as goal

-- those so far, with those of the atoms that are left, are all
abbrev pub invariant-loop-atom : goal.invariant-loop-atom
invariant-loop-atom l = with_vars (atoms_vars l.atom-iterator) l.vars ≡ with_vars (atoms_vars l.fn.atoms) l.initial.vars
