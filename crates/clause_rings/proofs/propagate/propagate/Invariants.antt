use Rattle.std.proofs.Common.{◌-◌, ◌^◌}
use Rattle.clause_rings.specs.Keeping.{Keeps, seen, Advances}
use Rattle.clause_rings.proofs.propagate.propagate.Given as goal

abbrev pub invariant-entries : goal.invariant-entries
invariant-entries l = Keeps l.watches × Advances (seen l.initial.watches) (seen l.watches)

abbrev pub decreases-entries : goal.decreases-entries
decreases-entries l = 2 ^ 32 - l.watches.head
