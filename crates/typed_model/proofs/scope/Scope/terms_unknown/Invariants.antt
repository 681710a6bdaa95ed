use Rattle.std.proofs.Common.{◌≡◌, drop}
use Rattle.typed_model.specs.Scope.{terms_unknown}
use Rattle.typed_model.proofs.scope.Scope.terms_unknown.Given as goal

abbrev pub invariant-loop-term : goal.invariant-loop-term
invariant-loop-term l = terms_unknown l.self (drop l.term-index l.terms) ≡ terms_unknown l.self l.terms
