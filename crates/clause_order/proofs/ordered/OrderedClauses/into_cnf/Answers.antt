-- Keeping each clause once changes neither truth nor range.
use Rattle.std.proofs.Common.{◌+◌, ap, sym, ◌∙◌, subst}
use Rattle.order_ints.specs.Place.{ClausesBelow}
use Rattle.order_ints.specs.Satisfies.{clauses_truth}
use Rattle.order_ints.specs.OrderedClauses.{distinct}
use Rattle.order_ints.proofs.OrderedLaws.{clauses_truth-distinct, ClausesBelow-distinct}
use Rattle.clause_order.proofs.ordered.OrderedClauses.into_cnf.Goals as goal

pub returns-clause-same_truth : goal.returns-clause-same_truth
returns-clause-same_truth c = λ σ. ap (clauses_truth σ) (c.in_ok-clauses.ensures ∙ ap distinct c.self.view_is) ∙ clauses_truth-distinct σ c.args.self

pub returns-clause-in_range : goal.returns-clause-in_range
returns-clause-in_range c = λ below. subst (ClausesBelow (c.args.vars + 1)) (sym (c.in_ok-clauses.ensures ∙ ap distinct c.self.view_is)) (ClausesBelow-distinct (c.args.vars + 1) c.args.self below)
