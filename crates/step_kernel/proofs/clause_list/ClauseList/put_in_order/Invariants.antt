use Rattle.std.proofs.Common.{◌≡◌, ◌++◌, drop, length}
use Rattle.std.specs.Prelude.{filter_map}
use Rattle.order_ints.specs.OrderedClauses.{ordered_clause}
use Rattle.step_kernel.specs.Pieces.{pieces, all_lengths}
use Rattle.step_kernel.proofs.clause_list.ClauseList.put_in_order.Given as goal

abbrev pub invariant-loop-length : goal.invariant-loop-length
invariant-loop-length l = record {
  rest : all_lengths (drop l.length-index l.length-items) ≡ length l.rest;
  ordered : l.ordered ++ filter_map (ordered_clause l.view) (pieces (drop l.length-index l.length-items) l.rest) ≡ l.fn.ordered ++ filter_map (ordered_clause l.view) l.fn.self;
}
