use Rattle.std.proofs.Common.{◌≡◌, List, length}
use Rattle.order_ints.specs.declared.literal.Lit.{Lit}
use Rattle.drup_check.specs.Standing.{Stands}
use Rattle.drup_check.proofs.tiers.Tiers.bring_back.Given as goal

-- what is left stands for what stood at the start
abbrev pub invariant-loop-clause : goal.invariant-loop-clause
invariant-loop-clause l = ((cs : List (List Lit)) → Stands l.fn.self cs → Stands l.self cs) × (l.self.db.trail.vars ≡ l.fn.self.db.trail.vars)

abbrev pub decreases-loop-clause : goal.decreases-loop-clause
decreases-loop-clause l = length l.self.gone.items
