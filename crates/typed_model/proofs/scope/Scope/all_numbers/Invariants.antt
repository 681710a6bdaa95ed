use Rattle.std.proofs.Common.{◌≡◌, drop}
use Rattle.typed_model.specs.Scope.{all_numbers}
use Rattle.typed_model.proofs.scope.Scope.all_numbers.Given as goal

abbrev pub invariant-loop-term : goal.invariant-loop-term
invariant-loop-term l = all_numbers l.self (drop l.term-index l.terms) ≡ all_numbers l.self l.terms
