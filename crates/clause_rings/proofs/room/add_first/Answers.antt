use Rattle.std.proofs.Common.{List, ◌+◌, ◌∙◌, sym, subst, ap}
use Rattle.std.specs.List.{Contains}
use Rattle.order_ints.specs.declared.literal.Lit.{Lit}
use Rattle.order_ints.specs.Place.{LitBelow}
use Rattle.literal_trail.specs.Trail.{Trail}
use Rattle.clause_arena.specs.Clauses.{Clause, Arena, clause_at}
use Rattle.clause_rings.proofs.Widened.{next-added, wider-at}
use Rattle.clause_rings.proofs.room.add_first.Goals as goal

pub add-requires-clause-in_range : goal.add-requires-clause-in_range
add-requires-clause-in_range c = subst (λ (t : Trail). (l : Lit) → Contains c.args.lits.now l → LitBelow (t.vars + 1) l) (sym c.reserve.ensures.trail) c.requires.in_range

pub returns-clause-next : goal.returns-clause-next
returns-clause-next c =
    let w = c.in_ok-reserve.ensures.wider in
    next-added c.args.watches.now.arena.clauses c.reserve.new.watches.arena.clauses c.add.new.watches.arena.clauses c.add.result c.args.id c.args.lits.now (λ d. ap (λ (cs : List Clause). clause_at cs d) w.clauses ∙ wider-at c.args.watches.now.arena.clauses w.more d) c.add.ensures.inside c.add.ensures.fresh (ap (λ (a : Arena). a.clauses) c.add.ensures.arena)
