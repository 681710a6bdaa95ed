use Rattle.std.proofs.Common.{◌≡◌, take}
use Rattle.proof_check.specs.Named.{numbered}
use Rattle.proof_check.specs.Arena.{all_live}
use Rattle.proof_check.proofs.checker.clauses_of.Given as goal

-- the clauses so far
abbrev pub invariant-loop-i : goal.invariant-loop-i
invariant-loop-i l = l.arena ≡ all_live (numbered 1 (take l.i l.clauses))
