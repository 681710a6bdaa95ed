use Rattle.std.proofs.Common.{◌≡◌, ◌+◌, ◌++◌, length}
use Rattle.std.specs.List.{range_with_len}
use Rattle.index_ring.specs.Lists.{IsRings, list_of}
use Rattle.clause_arena.specs.References.{AreListed}
use Rattle.clause_arena.proofs.references.list_all.Given as goal

abbrev pub invariant-loop-k : goal.invariant-loop-k
invariant-loop-k l =
    (list_of l.order 1 ≡ list_of l.initial.order 1 ++ range_with_len l.first l.k) × (list_of l.order 0 ≡ list_of l.initial.order 0) × (length l.order.lists ≡ 2)
    × (l.order.nodes ≡ l.initial.order.nodes) × AreListed l.order (l.first + l.k) × IsRings l.order
