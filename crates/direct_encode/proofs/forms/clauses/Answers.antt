use Rattle.direct_encode.proofs.Outcomes.{truth-put, below-put, size-put}
use Rattle.direct_encode.proofs.forms.clauses.Goals as goal

pub returns-clause-meaning : goal.returns-clause-meaning
returns-clause-meaning c =
    truth-put c.args.core.now _ c.push_clauses.new.clauses.items c.new-clauses.ensures.items c.in_ok-push_clauses.ensures c.requires.basic c.requires.well_formed

pub returns-clause-below : goal.returns-clause-below
returns-clause-below c =
    below-put c.args.core.now _ c.push_clauses.new.clauses.items c.new-clauses.ensures.items c.in_ok-push_clauses.ensures

pub returns-clause-size : goal.returns-clause-size
returns-clause-size c =
    size-put c.args.core.now _ c.push_clauses.new.clauses.items c.new-clauses.ensures.items c.in_ok-push_clauses.ensures c.requires.basic c.requires.well_formed
