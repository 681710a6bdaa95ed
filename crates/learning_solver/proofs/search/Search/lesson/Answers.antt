use Rattle.std.proofs.Common.{ap, sym, ◌∙◌, subst, List}
use Rattle.literal_trail.specs.Trail.{Trail}
use Rattle.proof_check.specs.declared.line.ProofLine.{ProofLine}
use Rattle.learning_solver.specs.Log.{proof_behind, additions, IsLog}
use Rattle.learning_solver.specs.Kept.{IsKept}
use Rattle.learning_solver.proofs.KeptLaws.{kept-more}
use Rattle.learning_solver.proofs.DeleteLaws.{once-more}
use Rattle.learning_solver.proofs.search.Search.lesson.Goals as goal

pub returns-clause-search : goal.returns-clause-search
returns-clause-search c =
    let s = c.args.self.now in
    let is = c.requires in
    let cnf = s.cnf.now in
    let room = c.reserve-2.ensures.wider in
    let lines = c.reserve.ensures.items in
    let P : List ProofLine → Type 0 = IsLog cnf in
    let Q : List ProofLine → Type 0 = λ ls. IsKept (proof_behind cnf ls).live c.reserve-2.new.self.clauses in
    record {
      db = c.reserve-2.ensures.db;
      vars = ap (λ (t : Trail). t.vars) room.trail ∙ is.vars;
      few = is.few;
      log = subst P (sym lines) is.log;
      base = is.base;
      added = is.added ∙ ap additions (sym lines);
      kept = subst Q (sym lines) (kept-more (proof_behind cnf s.lines.items).live s.db.clauses c.reserve-2.new.self.clauses room.more is.kept room.clauses);
      once = once-more s.base s.db.clauses c.reserve-2.new.self.clauses room.more is.once room.clauses;
      order = is.order;
      walker = is.walker;
    }
