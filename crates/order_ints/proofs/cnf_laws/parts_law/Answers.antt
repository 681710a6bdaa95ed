use Rattle.order_ints.proofs.TruthLaws.{clause_truth-append, atom_clause_truth-append, clauses_truth-append, atom_clauses_truth-append}
use Rattle.order_ints.proofs.cnf_laws.parts_law.Goals as goal

pub returns : goal.returns
returns c = record {
  clause = clause_truth-append;
  atom_clause = atom_clause_truth-append;
  clauses = clauses_truth-append;
  atom_clauses = atom_clauses_truth-append;
}
