use Rattle.std.proofs.Common.{◌≡◌, ℕ, ◌+◌, ◌<◌, get_or}
use Rattle.order_ints.specs.declared.literal.Lit.{Lit}
use Rattle.order_ints.proofs.cnf_order.has_opposite_neighbours.Given as goal

-- no two neighbours so far have one variable
abbrev pub invariant-loop-i : goal.invariant-loop-i
invariant-loop-i l = (k : ℕ) (d : Lit) → k + 1 < l.i → (get_or l.literals k d).var ≡ (get_or l.literals (k + 1) d).var → ⊥
