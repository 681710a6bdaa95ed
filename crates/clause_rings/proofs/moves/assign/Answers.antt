-- A literal that a clause makes true, or that begins a level where no clause is false or unit.
use Rattle.std.proofs.Common.{ℕ, sym, subst, Option}
use Rattle.std.specs.Prelude.{MatchOption}
use Rattle.literal_trail.specs.Trail.{Trail, IsTrail}
use Rattle.literal_trail.specs.Standing.{IsUnit}
use Rattle.clause_arena.specs.Clauses.{Arena, IsLive, lits_of}
use Rattle.clause_rings.specs.Clauses.{IsComplete}
use Rattle.clause_rings.specs.Watches.{IsKept}
use Rattle.clause_rings.proofs.Kept.{kept-implied}
use Rattle.clause_rings.proofs.Backwards.{kept-chosen}
use Rattle.clause_rings.proofs.moves.assign.Goals as goal

pub returns-in-Some-clause-kept : goal.returns-in-Some-clause-kept
returns-in-Some-clause-kept c =
    let w = c.args.watches.now in
    let r = subst (λ (o : Option ℕ). MatchOption o (IsComplete w.trail.entries w.arena.clauses) (λ d. IsLive w.arena.clauses d × IsUnit w.trail.entries (lits_of w.arena.clauses d) c.args.l)) c.in-Some.is c.requires.reason in
    subst (λ (t : Trail). IsKept w.arena.clauses t w.rings w.blockers.items w.head) (sym c.imply.ensures.trail) (kept-implied w.arena.clauses w.trail w.rings w.blockers.items w.head c.in-Some.c c.args.l (subst IsTrail c.imply.ensures.trail c.imply.ensures.is_trail) r.0 r.1 c.requires.kept)

pub returns-in-None-clause-kept : goal.returns-in-None-clause-kept
returns-in-None-clause-kept c =
    let w = c.args.watches.now in
    let n = c.park_all.new.watches in
    let complete : IsComplete w.trail.entries w.arena.clauses = subst (λ (o : Option ℕ). MatchOption o (IsComplete w.trail.entries w.arena.clauses) (λ d. IsLive w.arena.clauses d × IsUnit w.trail.entries (lits_of w.arena.clauses d) c.args.l)) c.in-None.is c.requires.reason in
    let now : IsComplete n.trail.entries n.arena.clauses = subst (λ (t : Trail). IsComplete t.entries n.arena.clauses) (sym c.park_all.ensures.trail) (subst (λ (a : Arena). IsComplete w.trail.entries a.clauses) (sym c.park_all.ensures.arena) complete) in
    subst (λ (t : Trail). IsKept n.arena.clauses t n.rings n.blockers.items n.head) (sym c.choose.ensures.trail) (kept-chosen n.arena.clauses n.trail c.args.l n.rings n.blockers.items n.head c.park_all.ensures.head (subst IsTrail c.choose.ensures.trail c.choose.ensures.is_trail) now c.park_all.ensures.kept)
