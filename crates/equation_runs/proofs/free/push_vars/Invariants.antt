use Rattle.std.proofs.Common.{◌≡◌, ◌++◌, drop}
use Rattle.equation_runs.specs.FreeAtoms.{vars_of}
use Rattle.equation_runs.proofs.free.push_vars.Given as goal

-- those so far and those of what is left are all
abbrev pub invariant-loop-atom : goal.invariant-loop-atom
invariant-loop-atom l = l.vars.items ++ vars_of (drop l.atom-index l.atoms) ≡ l.initial.vars.items ++ vars_of l.atoms
