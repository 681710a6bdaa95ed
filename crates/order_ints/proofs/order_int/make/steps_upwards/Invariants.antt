use Rattle.std.proofs.Common.{◌≡◌, ◌++◌, ◌<◌, ◌^◌, drop, length}
use Rattle.std.specs.Prelude.{unsigned_abs}
use Rattle.order_ints.specs.OrderMade.{steps_between, AscendFrom, AreSmall, AreVars}
use Rattle.order_ints.proofs.order_int.make.steps_upwards.Given as goal

-- the steps so far and those that are left are all steps, and the values that are left ascend from the last one on
abbrev pub invariant-loop-next : goal.invariant-loop-next
invariant-loop-next l = record {
  steps : l.steps.items ++ steps_between l.value (drop l.next-index l.values) l.var ≡ steps_between l.least l.values l.first_var;
  ascending : AscendFrom l.value (drop l.next-index l.values);
  from : unsigned_abs l.value < 2 ^ 100;
  bounded : AreSmall (drop l.next-index l.values);
  variables : AreVars l.var (length (drop l.next-index l.values));
}
