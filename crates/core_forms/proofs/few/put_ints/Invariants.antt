use Rattle.std.proofs.Common.{◌≡◌}
use Rattle.core_forms.specs.Variables.{ints_vars}
use Rattle.core_forms.specs.OwnVars.{with_vars}
use Rattle.core_forms.proofs.few.put_ints.Given as goal

-- those so far, with those of the integers that are left, are all
abbrev pub invariant-loop-a : goal.invariant-loop-a
invariant-loop-a l = with_vars (ints_vars l.a-iterator) l.vars ≡ with_vars (ints_vars l.fn.ints) l.initial.vars
