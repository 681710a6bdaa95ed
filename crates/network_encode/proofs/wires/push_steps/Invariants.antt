use Rattle.order_ints.specs.Label.{own_labels}
use Rattle.std.proofs.Common.{◌≡◌, ◌+◌, ◌-◌, ◌++◌}
use Rattle.network_encode.specs.MergeParts.{weighted}
use Rattle.network_encode.proofs.wires.push_steps.Given as goal

-- the steps so far and those that are left are all of them
abbrev pub invariant-loop-k : goal.invariant-loop-k
invariant-loop-k l =
    l.steps.items ++ weighted l.weight (own_labels (l.first + l.k) (l.count - l.k)) ≡ l.fn.steps.items ++ weighted l.weight (own_labels l.first l.count)
