use Rattle.std.proofs.Common.{◌≡◌, drop}
use Rattle.order_ints.specs.Truth.{valuation_at}
use Rattle.table_rules.specs.Rows.{is_some_apart}
use Rattle.table_rules.proofs.rows.is_some_apart.Given as goal

-- what is left decides
abbrev pub invariant-loop-pair : goal.invariant-loop-pair
invariant-loop-pair l = is_some_apart (valuation_at l.vars l.values) (drop l.pair-index l.pairs) ≡ is_some_apart (valuation_at l.vars l.values) l.pairs
