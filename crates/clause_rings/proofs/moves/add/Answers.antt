-- A clause that comes waits to be watched.
use Rattle.std.proofs.Common.{ℕ, List, ◌≤◌, ◌<◌, ◌+◌, ◌^◌, sym, subst, arith, set}
use Rattle.std.specs.List.{All, Contains}
use Rattle.std.proofs.lemmas.List.Elements.{All-from_get_or}
use Rattle.order_ints.specs.declared.literal.Lit.{Lit}
use Rattle.order_ints.specs.Place.{LitBelow}
use Rattle.clause_arena.specs.Clauses.{Arena, no_lit, live_clause, lit_in}
use Rattle.clause_rings.specs.Watches.{IsKept}
use Rattle.clause_rings.proofs.Literals.{contains-at}
use Rattle.clause_rings.proofs.Db.{changed-set}
use Rattle.clause_rings.proofs.ComeAndGo.{IsWelcome, kept-added}
use Rattle.clause_rings.proofs.moves.add.Goals as goal

-- literals in range have numbers of 32 bits
all-small : (vars bound : ℕ) (ls : List Lit) → vars ≤ 2 ^ 27 → 2 ^ 27 < bound → ((l : Lit) → Contains ls l → LitBelow (vars + 1) l) → All (λ l. l.var < bound) ls
all-small vars bound ls few far h = All-from_get_or (λ (l : Lit). l.var < bound) ls no_lit (λ k lt. let r = h (lit_in ls k) (contains-at ls k lt) in omega (arith, r.1))

pub add-c-requires-clause-small : goal.add-c-requires-clause-small
add-c-requires-clause-small c = all-small c.args.watches.now.trail.vars (2 ^ 31) c.args.lits.now c.requires.kept.db.trail.few (omega arith) c.requires.in_range

pub block-requires-clause-small : goal.block-requires-clause-small
block-requires-clause-small c = all-small c.args.watches.now.trail.vars (2 ^ 30) c.args.lits.now c.requires.kept.db.trail.few (omega arith) c.requires.in_range

pub returns-clause-kept : goal.returns-clause-kept
returns-clause-kept c =
    let w = c.args.watches.now in
    let welcome : IsWelcome w.trail c.args.lits.now = record { in_range = c.requires.in_range; apart = c.requires.apart; may_come = c.requires.may_come } in
    subst (λ (a : Arena). IsKept a.clauses w.trail c.push_back.new.self c.block.new.blockers.items w.head) (sym c.add-c.ensures.clauses) (kept-added w.arena.clauses (set w.arena.clauses c.add-c.result (live_clause c.args.id c.args.lits.now)) w.trail w.rings c.push_back.new.self w.blockers.items c.block.new.blockers.items w.head c.add-c.result c.args.id c.args.lits.now (changed-set w.arena.clauses c.add-c.result (live_clause c.args.id c.args.lits.now) c.add-c.ensures.inside) c.add-c.ensures.fresh welcome c.push_back.ensures.lists c.push_back.ensures.rings c.block.ensures c.requires.kept)
