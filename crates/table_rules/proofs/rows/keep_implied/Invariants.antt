use Rattle.std.proofs.Common.{◌≡◌, length}
use Rattle.table_rules.specs.Rows.{left_below}
use Rattle.table_rules.proofs.rows.keep_implied.Given as goal

-- the pairs are those that the rows so far leave
abbrev pub invariant-loop-number : goal.invariant-loop-number
invariant-loop-number l = record {
  left : l.pairs.items ≡ left_below l.core l.vars l.initial.pairs.items l.number;
  long : length l.values ≡ length l.vars;
}
