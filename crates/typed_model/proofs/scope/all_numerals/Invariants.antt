use Rattle.std.proofs.Common.{◌≡◌, drop}
use Rattle.typed_model.specs.Scope.{all_numerals}
use Rattle.typed_model.proofs.scope.all_numerals.Given as goal

abbrev pub invariant-loop-term : goal.invariant-loop-term
invariant-loop-term l = all_numerals (drop l.term-index l.terms) ≡ all_numerals l.terms
