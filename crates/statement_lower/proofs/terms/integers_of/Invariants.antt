use Rattle.std.proofs.Common.{◌≡◌, map, take}
use Rattle.statement_lower.specs.Terms.{integer_of}
use Rattle.statement_lower.proofs.terms.integers_of.Given as goal

abbrev pub invariant-loop-term : goal.invariant-loop-term
invariant-loop-term l = l.ints.items ≡ map (integer_of l.entries) (take l.term-index l.terms)
