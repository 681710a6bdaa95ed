use Rattle.std.proofs.Common.{◌≡◌, ◌++◌, length}
use Rattle.direct_encode.specs.AtomLists.{amo_clauses}
use Rattle.direct_encode.proofs.atom_lists.push_amo.Given as goal

-- those so far and those of the members that are left are all
abbrev pub invariant-loop-first : goal.invariant-loop-first
invariant-loop-first l = l.clauses.items ++ amo_clauses l.rest ≡ l.initial.clauses.items ++ amo_clauses l.initial.rest

abbrev pub decreases-loop-first : goal.decreases-loop-first
decreases-loop-first l = length l.rest
