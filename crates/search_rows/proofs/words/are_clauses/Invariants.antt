use Rattle.std.proofs.Common.{drop}
use Rattle.search_rows.specs.Clauses.{EachAscends}
use Rattle.search_rows.proofs.words.are_clauses.Given as goal

-- where those that are left ascend, all do
abbrev pub invariant-loop-clause : goal.invariant-loop-clause
invariant-loop-clause l = EachAscends l.vars (drop l.clause-index l.clauses) → EachAscends l.vars l.clauses
