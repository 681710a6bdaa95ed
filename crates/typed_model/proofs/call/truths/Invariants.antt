use Rattle.std.proofs.Common.{◌≡◌, take, map}
use Rattle.typed_model.specs.Scope.{truth}
use Rattle.typed_model.proofs.call.truths.Given as goal

abbrev pub invariant-loop-term : goal.invariant-loop-term
invariant-loop-term l = l.members.items ≡ map (truth l.scope) (take l.term-index l.terms)
