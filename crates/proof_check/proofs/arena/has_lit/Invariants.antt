use Rattle.std.proofs.Common.{◌≡◌, drop}
use Rattle.order_ints.specs.OrderedClauses as ordered
use Rattle.proof_check.proofs.arena.has_lit.Given as goal

abbrev pub invariant-loop-other : goal.invariant-loop-other
invariant-loop-other l = ordered.has_lit l.lit (drop l.other-index l.lits) ≡ ordered.has_lit l.lit l.lits
