use Rattle.std.proofs.Common.{◌∙◌}
use Rattle.typed_model.proofs.FaultLaws.{fit-end}
use Rattle.typed_model.proofs.faults.fit.Goals as goal

pub returns : goal.returns
returns c = c.is_empty.ensures ∙ (fit-end c.args.scope.now c.loop-rest.places.now c.loop-rest.rest.now c.in_default.len_below ∙ c.loop-rest.invariant)
