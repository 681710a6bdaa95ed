use Rattle.std.proofs.Common.{◌≡◌, ◌++◌}
use Rattle.core_forms.specs.Contents.{ints_of}
use Rattle.core_forms.specs.Variables.{ints_vars}
use Rattle.core_forms.proofs.occurrence.put_ints.Given as goal

-- those so far and those of what is left are all
abbrev pub invariant-loop-a : goal.invariant-loop-a
invariant-loop-a l = l.vars.items ++ ints_vars l.a-iterator ≡ l.initial.vars.items ++ ints_vars (ints_of l.core)
