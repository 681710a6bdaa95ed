use Rattle.std.proofs.Common.{◌≡◌, ◌++◌, drop}
use Rattle.equation_runs.specs.TwinPairs.{both_atoms}
use Rattle.equation_runs.proofs.opposites.both_atoms.Given as goal

-- those so far and those of the pairs that are left are all
abbrev pub invariant-loop-pair : goal.invariant-loop-pair
invariant-loop-pair l = l.atoms.items ++ both_atoms (drop l.pair-index l.pairs) ≡ both_atoms l.pairs
