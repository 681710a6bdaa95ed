use Rattle.std.proofs.Common.{◌≡◌, map, drop}
use Rattle.order_ints.specs.OrderedClauses as ordered
use Rattle.proof_check.specs.Arena.{unpacked}
use Rattle.proof_check.proofs.arena.has_code.Given as goal

abbrev pub invariant-loop-code : goal.invariant-loop-code
invariant-loop-code l = ordered.has_lit l.lit (map unpacked (drop l.code-index l.codes)) ≡ ordered.has_lit l.lit (map unpacked l.codes)
