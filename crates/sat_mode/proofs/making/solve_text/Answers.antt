use Rattle.sat_front.proofs.Reading.{same_truth, read_in_range, read_in_order}
use Rattle.sat_mode.proofs.Telling.{tells-same}
use Rattle.sat_mode.proofs.making.solve_text.Goals as goal

pub tell-requires-clause-few : goal.tell-requires-clause-few
tell-requires-clause-few g c = (read_in_range c.args.text.now c.in-Ok.cnf c.in-Ok.ensures.read).1

pub tell-requires-clause-in_range : goal.tell-requires-clause-in_range
tell-requires-clause-in_range g c = (read_in_range c.args.text.now c.in-Ok.cnf c.in-Ok.ensures.read).0

pub tell-requires-clause-ascend : goal.tell-requires-clause-ascend
tell-requires-clause-ascend g c = (read_in_order c.args.text.now c.in-Ok.cnf c.in-Ok.ensures.read).0

pub returns-in_ok-outcome-in-Ok : goal.returns-in_ok-outcome-in-Ok
returns-in_ok-outcome-in-Ok g c =
    let is = c.in-Ok.ensures.read in
    record {
      cnf = c.in-Ok.cnf;
      held = record { within = c.requires; is = is };
      tells = tells-same c.args.options c.in-Ok.cnf c.in-Ok.cnf.clauses is.draft.listed.clauses c.in_ok-outcome-in-Ok.outcome c.in_ok-outcome-in-Ok.written.items
          (same_truth c.args.text.now c.in-Ok.cnf is) c.in_ok-outcome-in-Ok.ensures;
    }
