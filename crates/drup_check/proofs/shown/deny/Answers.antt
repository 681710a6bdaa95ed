use Rattle.std.proofs.Common.{sym, ◌∙◌}
use Rattle.drup_check.proofs.Denials.{denying-by, denial-by}
use Rattle.drup_check.proofs.shown.deny.Goals as goal

pub returns-in-None-clause-denying : goal.returns-in-None-clause-denying
returns-in-None-clause-denying c =
    denying-by c.args.db.now c.assign.new.self c.propagate.new.self c.args.l c.negated.result c.negated.ensures.var c.negated.ensures.sign c.assign.ensures.trail c.propagate.ensures.clauses c.propagate.ensures.trail

pub returns-in-None-clause-denied : goal.returns-in-None-clause-denied
returns-in-None-clause-denied c =
    denial-by c.args.db.now c.assign.new.self c.propagate.new.self c.args.l c.negated.result c.negated.ensures.var c.negated.ensures.sign c.assign.ensures.trail c.propagate.ensures.clauses c.propagate.ensures.trail
    (sym c.truth.ensures ∙ c.in-None.is) c.propagate.result c.propagate.ensures.found c.propagate.ensures.none c.is_some.result c.is_some.ensures
