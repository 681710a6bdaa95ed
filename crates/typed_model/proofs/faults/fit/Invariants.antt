use Rattle.std.proofs.Common.{◌≡◌, length}
use Rattle.typed_model.specs.Faults.{fit}
use Rattle.typed_model.proofs.faults.fit.Given as goal

abbrev pub invariant-loop-rest : goal.invariant-loop-rest
invariant-loop-rest l = fit l.scope l.places l.rest ≡ fit l.scope l.wanted l.args

abbrev pub decreases-loop-rest : goal.decreases-loop-rest
decreases-loop-rest l = length l.rest
