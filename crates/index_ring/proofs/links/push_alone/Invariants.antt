use Rattle.std.proofs.Common.{◌≡◌, ◌+◌, ◌≤◌, ◌++◌, vec_len, vec_capacity}
use Rattle.index_ring.specs.Links.{alone}
use Rattle.index_ring.proofs.links.push_alone.Given as goal

abbrev pub invariant-loop-k : goal.invariant-loop-k
invariant-loop-k l =
    (l.links.items ≡ l.initial.links.items ++ alone l.from l.k) × (vec_len l.links ≡ vec_len l.initial.links + l.k) × (vec_len l.initial.links + l.more ≤ vec_capacity l.links)
