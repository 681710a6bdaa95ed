use Rattle.std.proofs.Common.{ℕ, List, [], ◌*◌, ◌+◌, sym, subst}
use Rattle.literal_trail.specs.Trail.{Trail, IsTrail, empty_trail}
use Rattle.clause_arena.specs.Clauses.{Arena}
use Rattle.index_ring.specs.Lists.{RingLists, IsRings, no_lists}
use Rattle.clause_rings.specs.Watches.{IsKept}
use Rattle.clause_rings.proofs.Widened.{kept-none}
use Rattle.clause_rings.proofs.room.empty.Goals as goal

pub returns-clause-kept : goal.returns-clause-kept
returns-clause-kept c =
    subst (λ (a : Arena). IsKept a.clauses c.in_ok-with-2.field-0 c.in_ok-with-3.field-0 c.new.result.items 0) (sym c.in_ok-with.ensures.clauses)
    (subst (λ (t : Trail). IsKept [] t c.in_ok-with-3.field-0 c.new.result.items 0) (sym c.in_ok-with-2.ensures.empty)
    (subst (λ (r : RingLists). IsKept [] (empty_trail c.args.vars) r c.new.result.items 0) (sym c.in_ok-with-3.ensures.lists)
    (subst (λ (b : List ℕ). IsKept [] (empty_trail c.args.vars) (no_lists (2 * c.args.vars + 2) 0) b 0) (sym c.new.ensures.items)
    (kept-none c.args.vars (subst IsTrail c.in_ok-with-2.ensures.empty c.in_ok-with-2.ensures.trail) (subst IsRings c.in_ok-with-3.ensures.lists c.in_ok-with-3.ensures.rings)))))
