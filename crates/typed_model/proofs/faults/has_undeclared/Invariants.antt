use Rattle.std.proofs.Common.{◌≡◌, length}
use Rattle.typed_model.specs.Faults.{has_undeclared}
use Rattle.typed_model.proofs.faults.has_undeclared.Given as goal

abbrev pub invariant-loop-rest : goal.invariant-loop-rest
invariant-loop-rest l = has_undeclared l.scope l.places l.rest ≡ has_undeclared l.scope l.wanted l.args

abbrev pub decreases-loop-rest : goal.decreases-loop-rest
decreases-loop-rest l = length l.rest
