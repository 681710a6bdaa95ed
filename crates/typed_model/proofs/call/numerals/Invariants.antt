use Rattle.std.proofs.Common.{◌≡◌, take, map}
use Rattle.typed_model.specs.Scope.{numeral}
use Rattle.typed_model.proofs.call.numerals.Given as goal

abbrev pub invariant-loop-term : goal.invariant-loop-term
invariant-loop-term l = l.members.items ≡ map numeral (take l.term-index l.terms)
