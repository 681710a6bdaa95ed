use Rattle.std.proofs.Common.{drop}
use Rattle.search_rows.specs.Clauses.{Ascends}
use Rattle.search_rows.proofs.words.is_clause.Given as goal

-- where those that are left ascend from the last one on, all do
abbrev pub invariant-loop-l : goal.invariant-loop-l
invariant-loop-l l = Ascends l.last l.vars (drop l.l-index l.lits) → Ascends 0 l.vars l.lits
