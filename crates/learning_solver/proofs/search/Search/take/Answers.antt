use Rattle.std.proofs.Common.{ap, sym, ◌∙◌, List, ◌+◌, ℕ, subst, arith}
use Rattle.std.specs.Prelude.{slice_set}
use Rattle.order_ints.specs.declared.literal.Lit.{Lit}
use Rattle.clause_arena.specs.Clauses.{Clause, live_clause}
use Rattle.clause_rings.specs.Clauses.{ClauseLists}
use Rattle.learning_solver.specs.Log.{proof_behind}
use Rattle.learning_solver.specs.Kept.{AreOnce}
use Rattle.learning_solver.proofs.LogLaws.{none-lives-above}
use Rattle.learning_solver.proofs.DeleteLaws.{once-added}
use Rattle.learning_solver.proofs.LitLaws.{lits-of-addition}
use Rattle.learning_solver.proofs.ReadableLaws.{addition-readable}
use Rattle.learning_solver.proofs.SearchLaws.{log-taken, additions-taken, kept-taken}
use Rattle.learning_solver.proofs.search.Search.take.Goals as goal

pub add-clause-requires-clause-in_range : goal.add-clause-requires-clause-in_range
add-clause-requires-clause-in_range c =
    let s = c.args.self.now in
    let lesson = c.args.lesson in
    let both = lits-of-addition s.cnf.now s.lines.items s.db.trail.vars lesson.id lesson.lits lesson.hints c.requires.fault c.requires.search.vars in
    rw (c.as_slice.ensures) both.0

pub add-clause-requires-clause-apart : goal.add-clause-requires-clause-apart
add-clause-requires-clause-apart c =
    let s = c.args.self.now in
    let lesson = c.args.lesson in
    let both = lits-of-addition s.cnf.now s.lines.items s.db.trail.vars lesson.id lesson.lits lesson.hints c.requires.fault c.requires.search.vars in
    rw (c.as_slice.ensures) both.1

pub returns-clause-search : goal.returns-clause-search
returns-clause-search c =
    let s = c.args.self.now in
    let is = c.requires.search in
    let cnf = s.cnf.now in
    let log = s.lines.items in
    let lesson = c.args.lesson in
    let goes = c.push_reserved.ensures.items in
    record {
      db = c.add-clause.ensures.db;
      vars = ap (λ (d : ClauseLists). d.trail.vars) c.add-clause.ensures.clause ∙ is.vars;
      few = is.few;
      log = log-taken cnf log is.log lesson.id lesson.lits lesson.hints _ goes c.requires.next
          (addition-readable cnf log is.log is.few lesson.id lesson.lits lesson.hints c.requires.next c.requires.small c.requires.fault c.requires.hints) c.requires.fault c.requires.new;
      base = is.base;
      added = ap (λ (n : ℕ). n + 1) is.added ∙ sym (additions-taken cnf log is.log lesson.id lesson.lits lesson.hints _ goes c.requires.next);
      kept = kept-taken cnf log is.log lesson.id lesson.lits lesson.hints _ goes c.requires.next s.db.clauses c.add-clause.result _ is.kept c.add-clause.ensures.inside c.add-clause.ensures.fresh
          (ap (λ (d : ClauseLists). d.clauses) c.add-clause.ensures.clause ∙ ap (λ (ls : List Lit). slice_set s.db.clauses c.add-clause.result (live_clause lesson.id ls)) c.as_slice.ensures);
      once =
          let P : List Clause → Type 0 = AreOnce s.base in
          subst P (sym (ap (λ (d : ClauseLists). d.clauses) c.add-clause.ensures.clause ∙ ap (λ (ls : List Lit). slice_set s.db.clauses c.add-clause.result (live_clause lesson.id ls)) c.as_slice.ensures))
          (once-added (proof_behind cnf log).live s.db.clauses s.base c.add-clause.result lesson.id lesson.lits is.kept is.once c.add-clause.ensures.inside (none-lives-above cnf log is.log lesson.id (omega (arith, c.requires.next))));
      order = is.order;
      walker = is.walker;
    }
