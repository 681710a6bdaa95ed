use Rattle.std.proofs.Common.{◌≡◌}
use Rattle.equation_store.specs.Ring.{behind, walk_of, place_after}
use Rattle.equation_store.proofs.Walking.{IsWalking}
use Rattle.equation_store.proofs.classes.relabel.Given as goal

abbrev pub invariant-loop-k : goal.invariant-loop-k
invariant-loop-k l = IsWalking l.initial.labels l.labels l.var l.by (walk_of (behind l.next) l.var l.size) l.k × (l.member ≡ place_after (behind l.next) l.var l.k)
