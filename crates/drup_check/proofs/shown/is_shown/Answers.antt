use Rattle.std.proofs.Common.{ap, sym, subst, ◌∙◌}
use Rattle.std.specs.Prelude.{List}
use Rattle.literal_trail.specs.Trail.{Trail}
use Rattle.clause_arena.specs.Clauses.{Clause}
use Rattle.clause_rings.specs.Clauses.{ClauseLists, IsComplete}
use Rattle.drup_check.proofs.Permuted.{complete-same}
use Rattle.drup_check.proofs.Rups.{shown-sound, shown-all, trail-same}
use Rattle.drup_check.proofs.shown.is_shown.Goals as goal

pub returns-clause-sound : goal.returns-clause-sound
returns-clause-sound c =
    shown-sound c.args.db.now c.deny_all-shown.new.db c.args.lits.now c.requires.bottom c.vars-vars.ensures.db c.deny_all-shown.ensures.denying c.deny_all-shown.ensures.db c.deny_all-shown.result c.deny_all-shown.ensures.denied

pub returns-clause-shown : goal.returns-clause-shown
returns-clause-shown c = shown-all c.args.db.now c.deny_all-shown.new.db c.args.lits.now c.deny_all-shown.ensures.denying c.deny_all-shown.result c.deny_all-shown.ensures.denied

pub returns-clause-trail : goal.returns-clause-trail
returns-clause-trail c =
    ap (λ (s : ClauseLists). s.trail) c.backjump.ensures.trail
    ∙ trail-same c.args.db.now c.deny_all-shown.new.db c.args.lits.now c.requires.bottom c.vars-vars.ensures.db c.deny_all-shown.ensures.denying

pub returns-clause-complete : goal.returns-clause-complete
returns-clause-complete c =
    let trail = ap (λ (s : ClauseLists). s.trail) c.backjump.ensures.trail ∙ trail-same c.args.db.now c.deny_all-shown.new.db c.args.lits.now c.requires.bottom c.vars-vars.ensures.db c.deny_all-shown.ensures.denying in
    let kept = complete-same c.args.db.now.clauses c.deny_all-shown.new.db.clauses c.deny_all-shown.ensures.denying.clauses c.args.db.now.trail.entries c.requires.complete in
    let clauses = ap (λ (s : ClauseLists). s.clauses) c.backjump.ensures.trail in
    let old_trail = subst (λ (t : Trail). IsComplete t.entries c.deny_all-shown.new.db.clauses) (sym trail) kept in
    subst (λ (cs : List Clause). IsComplete c.backjump.new.self.trail.entries cs) (sym clauses) old_trail
