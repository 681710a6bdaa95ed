use Rattle.std.proofs.Common.{◌≡◌, take, map}
use Rattle.typed_model.specs.Scope.{number}
use Rattle.typed_model.proofs.call.numbers.Given as goal

abbrev pub invariant-loop-term : goal.invariant-loop-term
invariant-loop-term l = l.members.items ≡ map (number l.scope) (take l.term-index l.terms)
