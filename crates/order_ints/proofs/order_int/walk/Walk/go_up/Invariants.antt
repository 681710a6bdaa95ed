use Rattle.std.proofs.Common.{◌≡◌, length, ◌-◌}
use Rattle.order_ints.proofs.order_int.walk.Walk.go_up.Given as goal

-- the integer stays
abbrev pub invariant-loop-self : goal.invariant-loop-self
invariant-loop-self l = l.self.int.now ≡ l.initial.self.int.now

abbrev pub decreases-loop-self : goal.decreases-loop-self
decreases-loop-self l = length l.self.int.now.steps - l.self.place
