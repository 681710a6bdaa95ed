use Rattle.std.proofs.Common.{◌≡◌, [], map}
use Rattle.std.specs.Vec.Iter.{into_iter_items}
use Rattle.clause_order.proofs.DistinctSteps.{literals_of, with_each}
use Rattle.clause_order.proofs.distinct.set_of.Given as goal

-- with the clauses that are left, the set has what all leave
abbrev pub invariant-loop-clause : goal.invariant-loop-clause
invariant-loop-clause l =
    with_each (map literals_of l.set.keys) (into_iter_items l.clause-iterator) ≡ with_each [] l.fn.clauses.items
