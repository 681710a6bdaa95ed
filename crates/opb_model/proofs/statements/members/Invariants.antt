use Rattle.std.proofs.Common.{◌≡◌, take}
use Rattle.opb_model.specs.Models.{members}
use Rattle.opb_model.proofs.statements.members.Given as goal

abbrev pub invariant-loop-term : goal.invariant-loop-term
invariant-loop-term l = l.literals.items ≡ members (take l.term-index l.terms)
