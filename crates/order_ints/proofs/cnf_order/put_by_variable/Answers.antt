-- The sort and the removal of neighbours that are the same leave the literals by variable.
use Rattle.std.proofs.lemmas.List.Filters.{dedup_is}
use Rattle.order_ints.specs.OrderedClauses.{same_lit}
use Rattle.order_ints.proofs.LitOrder.{by_variable-from_sort}
use Rattle.order_ints.proofs.cnf_order.put_by_variable.Goals as goal

pub returns : goal.returns
returns c =
    by_variable-from_sort c.args.literals.now.items c.sort_unstable.new.self.items c.dedup.new.self.items c.sort_unstable.ensures.permutation c.sort_unstable.ensures.sorted (dedup_is same_lit _ _ c.dedup.ensures.filtered)
