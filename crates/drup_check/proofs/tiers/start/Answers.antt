use Rattle.std.proofs.Common.{ap, ◌∙◌}
use Rattle.literal_trail.specs.Trail.{Trail}
use Rattle.drup_check.proofs.Trails.{follows-same}
use Rattle.drup_check.proofs.Started.{cnf-held, cnf-listed, propagated}
use Rattle.drup_check.proofs.tiers.start.Goals as goal

pub returns-clause-stands : goal.returns-clause-stands
returns-clause-stands c =
    propagated c.in_ok-db.db (record { db = c.propagate.new.self; gone = c.new-gone.result; index = c.in_ok-index.index }) c.args.cnf.now.clauses (ap (λ (t : Trail). t.level) c.in_ok-db.ensures.trail) c.propagate.ensures.clauses c.propagate.ensures.trail c.propagate.ensures.db
    (cnf-held c.args.cnf.now c.in_ok-db.db.clauses c.in_ok-db.ensures.clauses) (cnf-listed c.args.cnf.now c.in_ok-db.db.clauses c.in_ok-db.ensures.clauses) c.new-gone.ensures.items
    c.propagate.result c.propagate.ensures.found c.propagate.ensures.none c.is_some-refuted.result c.is_some-refuted.ensures

pub returns-clause-vars : goal.returns-clause-vars
returns-clause-vars c =
    (follows-same c.propagate.new.self.clauses c.in_ok-db.db.trail c.propagate.new.self.trail c.propagate.ensures.trail).0 ∙ ap (λ (t : Trail). t.vars) c.in_ok-db.ensures.trail
