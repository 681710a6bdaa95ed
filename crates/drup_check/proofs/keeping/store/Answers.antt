use Rattle.std.proofs.Common.{◌+◌, sym, subst}
use Rattle.order_ints.specs.Place.{LitBelow}
use Rattle.literal_trail.specs.Trail.{Trail}
use Rattle.drup_check.proofs.Additions.{stored-refutes, stored-takes, same_vars}
use Rattle.drup_check.proofs.keeping.store.Goals as goal

pub add-reference-requires-clause-in_range : goal.add-reference-requires-clause-in_range
add-reference-requires-clause-in_range c = λ l has. subst (λ (t : Trail). LitBelow (t.vars + 1) l) (sym c.reserve.ensures.wider.trail) (c.requires.lits l has)

pub returns-in-Some-clause-kept : goal.returns-in-Some-clause-kept
returns-in-Some-clause-kept c =
    stored-refutes c.args.db.now c.reserve.new.self c.add-reference.new.self c.propagate.new.self c.add-reference.result c.args.id c.args.lits.now c.requires.bottom c.reserve.ensures.wider
    c.add-reference.ensures.inside c.add-reference.ensures.fresh c.add-reference.ensures.clause c.propagate.ensures.clauses c.propagate.ensures.trail c.propagate.ensures.db
    c.in-Some.field-0 (rw c.in-Some.is at c.propagate.ensures.found)

pub returns-in-None-clause-kept : goal.returns-in-None-clause-kept
returns-in-None-clause-kept c =
    stored-takes c.args.db.now c.reserve.new.self c.add-reference.new.self c.propagate.new.self c.add-reference.result c.args.id c.args.lits.now c.requires.bottom c.reserve.ensures.wider
    c.add-reference.ensures.inside c.add-reference.ensures.fresh c.add-reference.ensures.clause c.propagate.ensures.clauses c.propagate.ensures.trail c.propagate.ensures.db
    (rw c.in-None.is at c.propagate.ensures.none)

pub returns-in-Some-clause-vars : goal.returns-in-Some-clause-vars
returns-in-Some-clause-vars c =
    same_vars c.args.db.now c.reserve.new.self c.add-reference.new.self c.propagate.new.self c.add-reference.result c.args.id c.args.lits.now c.requires.bottom c.reserve.ensures.wider
    c.add-reference.ensures.inside c.add-reference.ensures.fresh c.add-reference.ensures.clause c.propagate.ensures.clauses c.propagate.ensures.trail c.propagate.ensures.db

pub returns-in-None-clause-vars : goal.returns-in-None-clause-vars
returns-in-None-clause-vars c =
    same_vars c.args.db.now c.reserve.new.self c.add-reference.new.self c.propagate.new.self c.add-reference.result c.args.id c.args.lits.now c.requires.bottom c.reserve.ensures.wider
    c.add-reference.ensures.inside c.add-reference.ensures.fresh c.add-reference.ensures.clause c.propagate.ensures.clauses c.propagate.ensures.trail c.propagate.ensures.db
