use Rattle.order_ints.proofs.OrderedLaws.{clauses_truth-ordered_clauses, ClausesBelow-ordered_clauses, ClausesAscend-ordered_clauses, ClausesDiffer-ordered_clauses}
use Rattle.order_ints.proofs.cnf_laws.order_law.Goals as goal

pub returns : goal.returns
returns c = record {
  truth = clauses_truth-ordered_clauses;
  range = ClausesBelow-ordered_clauses;
  form = λ view cs. (ClausesAscend-ordered_clauses view cs, ClausesDiffer-ordered_clauses view cs);
}
