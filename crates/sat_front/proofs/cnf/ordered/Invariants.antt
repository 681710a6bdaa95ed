use Rattle.std.proofs.Common.{◌≡◌, ◌++◌}
use Rattle.std.specs.Vec.Iter.{into_iter_items}
use Rattle.sat_front.proofs.Lists.{ordered_each}
use Rattle.sat_front.proofs.cnf.ordered.Given as goal

-- the clauses so far and those that are left, put in order, are all
abbrev pub invariant-loop-clause : goal.invariant-loop-clause
invariant-loop-clause l = l.kept ++ ordered_each (into_iter_items l.clause-iterator) ≡ ordered_each l.fn.clauses.items
