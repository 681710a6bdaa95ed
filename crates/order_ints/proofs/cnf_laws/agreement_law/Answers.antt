use Rattle.order_ints.proofs.TruthLaws.{lit_agrees, atom_agrees, clause_agrees, clauses_agree, atom_clause_agrees, atom_clauses_agree}
use Rattle.order_ints.proofs.cnf_laws.agreement_law.Goals as goal

pub returns : goal.returns
returns c = record {
  literal = lit_agrees;
  atom = atom_agrees;
  clause = clause_agrees;
  clauses = clauses_agree;
  atom_clause = atom_clause_agrees;
  atom_clauses = atom_clauses_agree;
}
