use Rattle.order_ints.specs.Label.{own_labels}
use Rattle.std.proofs.Common.{◌≡◌, ◌+◌, ◌-◌, ◌*◌, ◌++◌}
use Rattle.network_encode.specs.MergeParts.{row_cores, comparators}
use Rattle.network_encode.proofs.wires.push_comparators.Given as goal

-- the comparators so far and those of the atoms that are left are all of them
abbrev pub invariant-loop-k : goal.invariant-loop-k
invariant-loop-k l =
    l.cores.items ++ row_cores (l.next + l.odd + l.even + 2 * l.k) (own_labels (l.next + 1 + l.k) (l.odd - 1 - l.k)) (own_labels (l.next + l.odd + l.k) (l.even - l.k)) ≡ l.fn.cores.items ++ comparators l.next l.odd l.even
