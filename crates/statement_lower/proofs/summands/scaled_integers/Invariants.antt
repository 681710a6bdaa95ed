use Rattle.std.proofs.Common.{◌≡◌, ◌++◌, drop}
use Rattle.statement_lower.specs.Lines.{scaled_integers}
use Rattle.statement_lower.proofs.summands.scaled_integers.Given as goal

abbrev pub invariant-loop-i : goal.invariant-loop-i
invariant-loop-i l =
    l.ints.items ++ scaled_integers l.entries (drop l.i l.coefficients) (drop l.i l.members) ≡ scaled_integers l.entries l.coefficients l.members
