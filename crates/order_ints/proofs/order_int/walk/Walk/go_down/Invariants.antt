use Rattle.std.proofs.Common.{◌≡◌, length, ◌<ℤ◌}
use Rattle.order_ints.proofs.order_int.walk.Walk.go_down.Given as goal

-- the integer stays, and v is reached where it was
abbrev pub invariant-loop-self : goal.invariant-loop-self
invariant-loop-self l = record {
  same : l.self.int.now ≡ l.initial.self.int.now;
  reached : (l.initial.self.value <ℤ l.v → l.initial.self.place ≡ length l.initial.self.int.now.steps) → l.self.value <ℤ l.v → l.self.place ≡ length l.self.int.now.steps;
}

abbrev pub decreases-loop-self : goal.decreases-loop-self
decreases-loop-self l = l.self.place
