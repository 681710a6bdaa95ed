use Rattle.std.proofs.Common.{◌≡◌, length, true}
use Rattle.table_rules.specs.Rows.{are_equal_below}
use Rattle.table_rules.proofs.rows.are_equal.Given as goal

-- the atoms are equally true in the rows so far
abbrev pub invariant-loop-number : goal.invariant-loop-number
invariant-loop-number l = record {
  equal : are_equal_below l.core l.vars (l.a, l.b) l.number ≡ true;
  long : length l.values ≡ length l.vars;
}
