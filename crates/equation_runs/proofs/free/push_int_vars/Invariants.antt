use Rattle.std.proofs.Common.{◌≡◌, ◌++◌, drop}
use Rattle.equation_runs.specs.FreeAtoms.{vars_of, int_atoms}
use Rattle.equation_runs.proofs.free.push_int_vars.Given as goal

-- those so far and those of what is left are all
abbrev pub invariant-loop-a : goal.invariant-loop-a
invariant-loop-a l = l.vars.items ++ vars_of (int_atoms (drop l.a-index l.ints)) ≡ l.initial.vars.items ++ vars_of (int_atoms l.ints)
