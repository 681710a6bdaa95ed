-- What the place says of the CNF.
use Rattle.std.proofs.Common.{◌∙◌, ap}
use Rattle.order_ints.specs.Truth.{valuation_of}
use Rattle.order_ints.specs.FirstFalse.{first_false_place}
use Rattle.order_ints.proofs.FirstFalseLaws.{first_false_place-none, first_false_place-some}
use Rattle.order_ints.proofs.cnf_truth.first_false.Goals as goal

pub returns-clause-none : goal.returns-clause-none
returns-clause-none c = first_false_place-none (valuation_of c.args.sigma.now) c.args.cnf.now.clauses _ (c.first_false_clause.ensures ∙ ap (first_false_place (valuation_of c.args.sigma.now)) c.as_slice.ensures)

pub returns-clause-first : goal.returns-clause-first
returns-clause-first c = first_false_place-some (valuation_of c.args.sigma.now) c.args.cnf.now.clauses _ (c.first_false_clause.ensures ∙ ap (first_false_place (valuation_of c.args.sigma.now)) c.as_slice.ensures)
