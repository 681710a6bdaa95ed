use Rattle.std.proofs.Common.{◌≡◌}
use Rattle.queens_model.specs.Queens.{integers_of}
use Rattle.queens_model.proofs.integers.integers.Given as goal

-- the integers of the rows that were met
abbrev pub invariant-loop-row : goal.invariant-loop-row
invariant-loop-row l = l.decls.items ≡ integers_of l.size l.row
