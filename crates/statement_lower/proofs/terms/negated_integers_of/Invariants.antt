use Rattle.std.proofs.Common.{◌≡◌, ◌++◌, map, drop}
use Rattle.order_ints.specs.OrderChange.{negated_of}
use Rattle.statement_lower.specs.Terms.{integers_of}
use Rattle.statement_lower.proofs.terms.negated_integers_of.Given as goal

abbrev pub invariant-loop-term : goal.invariant-loop-term
invariant-loop-term l =
    l.ints.items ++ map negated_of (integers_of l.entries (drop l.term-index l.terms)) ≡ map negated_of (integers_of l.entries l.terms)
