use Rattle.std.proofs.Common.{◌≡◌, drop}
use Rattle.typed_model.specs.Scope.{all_truths}
use Rattle.typed_model.proofs.scope.Scope.all_truths.Given as goal

abbrev pub invariant-loop-term : goal.invariant-loop-term
invariant-loop-term l = all_truths l.self (drop l.term-index l.terms) ≡ all_truths l.self l.terms
