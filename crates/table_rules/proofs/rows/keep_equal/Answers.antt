use Rattle.std.proofs.Common.{rules}
use Rattle.std.proofs.lemmas.Fn.{filter_same}
use Rattle.order_ints.specs.Truth.{valuation_at}
use Rattle.table_rules.specs.Rows.{are_equal_in}
use Rattle.table_rules.proofs.rows.keep_equal.Goals as goal

pub returns : goal.returns
returns c =
    filter_same _ (are_equal_in (valuation_at c.args.vars.now c.args.values.now)) _ (λ x b f' h. search rules) _ _ c.retain.ensures.filtered
