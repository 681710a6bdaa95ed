use Rattle.std.proofs.Common.{ℕ, ◌∙◌, sym, subst, ap, length, min}
use Rattle.literal_trail.specs.Trail.{Trail, IsTrail}
use Rattle.clause_rings.specs.Watches.{IsKept}
use Rattle.clause_rings.proofs.Backwards.{kept-cut}
use Rattle.clause_rings.proofs.moves.cut_back.Goals as goal

pub returns-clause-kept : goal.returns-clause-kept
returns-clause-kept c =
    let w = c.args.watches.now in
    subst (λ (t : Trail). IsKept w.arena.clauses t w.rings w.blockers.items c.min-watches.result) (sym c.cut_back.ensures.trail) (kept-cut w.arena.clauses w.trail w.rings w.blockers.items w.head c.args.level c.min-watches.result c.requires.level (subst IsTrail c.cut_back.ensures.trail c.cut_back.ensures.is_trail) (c.min-watches.ensures ∙ ap (λ (n : ℕ). min w.head n) (c.len.ensures.count ∙ ap (λ (t : Trail). length t.entries) c.cut_back.ensures.trail)) c.requires.kept)
