use Rattle.std.proofs.Common.{◌≡◌, [], ap, sym}
use Rattle.literal_trail.specs.Trail.{Trail}
use Rattle.learning_solver.specs.Log.{additions}
use Rattle.learning_solver.proofs.StartLaws.{log-of-none, kept-of-none}
use Rattle.learning_solver.proofs.DeleteLaws.{once-start}
use Rattle.learning_solver.proofs.search.Search.with.Goals as goal

pub returns-clause-search : goal.returns-clause-search
returns-clause-search c =
    let cnf = c.args.cnf.now in
    let none : c.new-lines.result.items ≡ [] = c.new-lines.ensures.items in
    record {
      db = c.in_ok-db.ensures.db;
      vars = ap (λ (t : Trail). t.vars) c.in_ok-db.ensures.trail;
      few = c.requires.vars;
      log = log-of-none cnf c.new-lines.result.items none c.requires.differ;
      base = c.len-base.ensures;
      added = sym (ap additions none);
      kept = kept-of-none cnf c.new-lines.result.items c.in_ok-db.db.clauses none c.in_ok-db.ensures.clauses;
      once = once-start cnf c.in_ok-db.db.clauses c.len-base.result c.len-base.ensures c.in_ok-db.ensures.clauses;
      order = c.requires.order;
      walker = c.in_ok-walker.ensures;
    }
