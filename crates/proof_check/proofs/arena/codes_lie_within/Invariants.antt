use Rattle.std.proofs.Common.{◌≡◌, map, drop}
use Rattle.proof_check.specs.New.{lies_within}
use Rattle.proof_check.specs.Arena.{unpacked}
use Rattle.proof_check.proofs.arena.codes_lie_within.Given as goal

abbrev pub invariant-loop-code : goal.invariant-loop-code
invariant-loop-code l = lies_within (map unpacked (drop l.code-index l.codes)) l.lits ≡ lies_within (map unpacked l.codes) l.lits
