use Rattle.std.proofs.Common.{sym, subst}
use Rattle.clause_arena.specs.Clauses.{Arena, no_clause}
use Rattle.clause_rings.specs.Watches.{IsKept}
use Rattle.clause_rings.proofs.Db.{changed-set, live-inside}
use Rattle.std.proofs.Common.{set}
use Rattle.clause_rings.proofs.ComeAndGo.{kept-deleted}
use Rattle.clause_rings.proofs.moves.delete.Goals as goal

pub returns-clause-kept : goal.returns-clause-kept
returns-clause-kept c =
    let w = c.args.watches.now in
    subst (λ (a : Arena). IsKept a.clauses w.trail c.release-2.new.rings w.blockers.items w.head) (sym c.delete.ensures.clauses) (kept-deleted w.arena.clauses (set w.arena.clauses c.args.c no_clause) w.trail w.rings c.release.new.rings c.release-2.new.rings w.blockers.items w.head c.args.c (changed-set w.arena.clauses c.args.c no_clause (live-inside w.arena.clauses c.args.c c.requires.live)) c.requires.unused c.release.ensures.released c.release-2.ensures.released c.release-2.ensures.made c.requires.kept)
