use Rattle.std.proofs.Common.{◌≡◌, ◌+◌, ◌*◌, ◌++◌, drop}
use Rattle.network_encode.specs.MergeParts.{odd_places, weighted}
use Rattle.network_encode.proofs.units.second_places.Given as goal

-- the steps so far and those of the places that are left are all of them
abbrev pub invariant-loop-k : goal.invariant-loop-k
invariant-loop-k l =
    l.steps.items ++ weighted 1 (odd_places (drop (l.first + 2 * l.k) l.atoms)) ≡ weighted 1 (odd_places (drop l.first l.atoms))
