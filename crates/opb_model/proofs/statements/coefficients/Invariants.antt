use Rattle.std.proofs.Common.{◌≡◌, take}
use Rattle.opb_model.specs.Models.{coefficients}
use Rattle.opb_model.proofs.statements.coefficients.Given as goal

abbrev pub invariant-loop-term : goal.invariant-loop-term
invariant-loop-term l = l.numbers.items ≡ coefficients (take l.term-index l.terms)
