use Rattle.std.proofs.Common.{◌≡◌, map, drop}
use Rattle.proof_check.specs.New.{lies_within}
use Rattle.proof_check.specs.Arena.{unpacked}
use Rattle.proof_check.proofs.arena.lies_within_codes.Given as goal

abbrev pub invariant-loop-lit : goal.invariant-loop-lit
invariant-loop-lit l = lies_within (drop l.lit-index l.lits) (map unpacked l.codes) ≡ lies_within l.lits (map unpacked l.codes)
