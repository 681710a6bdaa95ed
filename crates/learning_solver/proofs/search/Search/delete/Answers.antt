use Rattle.std.proofs.Common.{rules, ◌≡◌, ◌^◌, ◌<◌, ◌∙◌, ◌++◌, ℕ, List, [], ◌∷◌, length, refl, ap, sym, subst, arith}
use Rattle.clause_arena.specs.Clauses.{Clause, clause_at}
use Rattle.clause_rings.specs.Clauses.{ClauseLists}
use Rattle.proof_check.specs.declared.line.ProofLine.{ProofLine}
use Rattle.proof_check.specs.declared.line.ProofLine.TheVariants.{Delete}
use Rattle.learning_solver.specs.Log.{proof_behind}
use Rattle.learning_solver.specs.Kept.{AreOnce}
use Rattle.learning_solver.proofs.DeleteLaws.{log-gone, additions-gone, kept-without, once-gone}
use Rattle.learning_solver.proofs.RunLaws.{forgets-same}
use Rattle.learning_solver.proofs.search.Search.delete.Goals as goal

pub returns-in_err-reserve-clause-forgets : goal.returns-in_err-reserve-clause-forgets
returns-in_err-reserve-clause-forgets c = forgets-same c.args.self.now _ refl c.reserve.ensures.items refl refl

pub returns-clause-search : goal.returns-clause-search
returns-clause-search c =
    let s = c.args.self.now in
    let is = c.requires in
    let cnf = s.cnf.now in
    let log = s.lines.items in
    let cs = s.db.clauses in
    let may = c.is_deletable.ensures c.if-not-is_deletable.false in
    let learned : length cnf.clauses < (clause_at cs c.args.c).id = omega (arith, is.base, may.learned) in
    let at = c.in-Some.at in
    let narrow : (clause_at cs c.args.c).id < 2 ^ 64 = search rules in
    let mark : at ≡ (proof_behind cnf log).last = omega (arith, c.in-Some.ensures.0, is.base, is.added, is.log.last) in
    let small : at < 2 ^ 64 = c.in-Some.ensures.1 in
    let ids = c.from_vec-ids.ensures ∙ c.in_ok-vec.ensures.items ∙ ap (λ (i : ℕ). i ∷ []) c.id.ensures in
    let goes = c.push_reserved.ensures.items ∙ ap (λ (ls : List ProofLine). ls ++ Delete at c.from_vec-ids.result ∷ []) c.reserve.ensures.items ∙ ap (λ (is : List ℕ). log ++ Delete at is ∷ []) ids in
    let made = ap (λ (d : ClauseLists). d.clauses) c.delete.ensures.clause in
    let P : List Clause → Type 0 = AreOnce s.base in
    record {
      db = c.delete.ensures.db;
      vars = ap (λ (d : ClauseLists). d.trail.vars) c.delete.ensures.clause ∙ is.vars;
      few = is.few;
      log = log-gone cnf log is.log cs is.kept c.args.c may.live learned may.long narrow at mark small _ goes;
      base = is.base;
      added = is.added ∙ sym (additions-gone cnf log is.log cs is.kept c.args.c may.live learned may.long narrow at mark small _ goes);
      kept = kept-without cnf log is.log cs is.kept c.args.c may.live learned may.long narrow at mark small _ goes s.base _ is.once may.learned made;
      once = subst P (sym made) (once-gone (proof_behind cnf log).live cs s.base c.args.c is.kept is.once may.live may.learned);
      order = is.order;
      walker = is.walker;
    }
