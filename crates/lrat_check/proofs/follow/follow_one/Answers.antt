use Rattle.std.proofs.Common.{sym, ◌∙◌}
use Rattle.lrat_check.proofs.Adding.{unit-lit}
use Rattle.lrat_check.proofs.follow.follow_one.Goals as goal

pub make_true-requires-clause-lit : goal.make_true-requires-clause-lit
make_true-requires-clause-lit c =
    (unit-lit c.args.cnf.now c.args.added.now.entries c.args.trail.now _ c.in-Some.lits.now c.in-UnitFor.l c.requires.in_range c.requires.vars c.requires.below (sym c.in-Some.ensures) (sym c.standing.ensures ∙ c.in-UnitFor.is)).below

pub make_true-requires-clause-free : goal.make_true-requires-clause-free
make_true-requires-clause-free c =
    (unit-lit c.args.cnf.now c.args.added.now.entries c.args.trail.now _ c.in-Some.lits.now c.in-UnitFor.l c.requires.in_range c.requires.vars c.requires.below (sym c.in-Some.ensures) (sym c.standing.ensures ∙ c.in-UnitFor.is)).free
