-- A clause that waits, with its literals in order, perhaps made true, and linked.
use Rattle.std.proofs.Common.{ℕ, ◌≡◌, ◌≤◌, ◌*◌, length, arith}
use Rattle.literal_trail.specs.Trail.{Trail}
use Rattle.clause_arena.specs.Clauses.{Arena, IsLive, lits_of}
use Rattle.index_ring.specs.Lists.{Stands}
use Rattle.clause_rings.specs.Watches.{IsKept}
use Rattle.clause_rings.specs.Keeping.{Keeps, seen, Advances}
use Rattle.clause_rings.specs.Attaching.{IsReordered, IsForced, IsLinkable}
use Rattle.clause_rings.specs.declared.watches.Watches.{Watches}
use Rattle.std.proofs.lemmas.List.Sorted.{length_permutation}
use Rattle.clause_rings.proofs.Looked.{advances-none, advances-both}
use Rattle.clause_rings.proofs.Linked.{newly-linked, linkable, waits-by, kept-reordered, kept-forced, kept-linked, advances-forced, advances-reordered}
use Rattle.clause_rings.proofs.attach.attach.Goals as goal

-- what is known behind the first step: the clauses with one in another order
record IsOrdered (w : Watches) (arena : Arena) (c : ℕ) : Type 0 where
  kept : IsKept arena.clauses w.trail w.rings w.blockers.items w.head
  live : IsLive arena.clauses c
  some : 1 ≤ length (lits_of arena.clauses c)
  able : IsLinkable (lits_of arena.clauses c) w.rings c

ordered : (w : Watches) (arena : Arena) (c n : ℕ) → Keeps w → Stands w.rings 0 (2 * c) → n ≡ length (lits_of w.arena.clauses c) → 1 ≤ n → IsReordered w.arena arena c → IsOrdered w arena c
ordered w arena c n kept stands is some r =
    let after = kept-reordered w.arena arena w.trail w.rings w.blockers.items w.head c r stands kept in
    let waits = waits-by arena.clauses w.trail w.rings w.blockers.items w.head c after stands in
    record {
      kept = after;
      live = waits.live;
      some = omega (arith, length_permutation (lits_of w.arena.clauses c) (lits_of arena.clauses c) r.here.lits);
      able = linkable (record w { arena = arena }) c after stands;
    }

forced-advances : (w : Watches) (arena : Arena) (u : Trail) (c : ℕ) → IsReordered w.arena arena c → IsForced arena.clauses c w.trail u → IsLive arena.clauses c → Advances (seen w) (record { clauses = arena.clauses; trail = u; spare_lits = arena.spare_lits; spare_clauses = arena.spare_clauses })
forced-advances w arena u c r forced live = advances-both (seen w) (record { clauses = arena.clauses; trail = w.trail; spare_lits = arena.spare_lits; spare_clauses = arena.spare_clauses }) (record { clauses = arena.clauses; trail = u; spare_lits = arena.spare_lits; spare_clauses = arena.spare_clauses }) (advances-reordered w.arena arena w.trail c r) (advances-forced arena.clauses c w.trail u arena.spare_lits arena.spare_clauses forced live)

pub returns-then-len-eq0-clause-advances : goal.returns-then-len-eq0-clause-advances
returns-then-len-eq0-clause-advances c = advances-none (seen c.args.watches.now)

pub force-requires-clause-some : goal.force-requires-clause-some
force-requires-clause-some c = (ordered c.args.watches.now c.order.new.arena c.args.c c.len.result c.requires.kept c.requires.waits c.len.ensures (omega arith) c.order.ensures.reordered).some

pub force-requires-clause-db : goal.force-requires-clause-db
force-requires-clause-db c = (ordered c.args.watches.now c.order.new.arena c.args.c c.len.result c.requires.kept c.requires.waits c.len.ensures (omega arith) c.order.ensures.reordered).kept.db

pub returns-then-force-clause-kept : goal.returns-then-force-clause-kept
returns-then-force-clause-kept c =
    let w = c.args.watches.now in
    let o = ordered w c.order.new.arena c.args.c c.len.result c.requires.kept c.requires.waits c.len.ensures (omega arith) c.order.ensures.reordered in
    kept-forced c.order.new.arena.clauses c.args.c w.trail c.force.new.trail w.rings w.blockers.items w.head c.force.ensures.forced c.force.ensures.trail o.live o.kept

pub returns-then-force-clause-advances : goal.returns-then-force-clause-advances
returns-then-force-clause-advances c =
    let w = c.args.watches.now in
    let o = ordered w c.order.new.arena c.args.c c.len.result c.requires.kept c.requires.waits c.len.ensures (omega arith) c.order.ensures.reordered in
    forced-advances w c.order.new.arena c.force.new.trail c.args.c c.order.ensures.reordered c.force.ensures.forced o.live

pub link-requires-clause-some : goal.link-requires-clause-some
link-requires-clause-some c = (ordered c.args.watches.now c.order.new.arena c.args.c c.len.result c.requires.kept c.requires.waits c.len.ensures (omega arith) c.order.ensures.reordered).some

pub link-requires-clause-linkable : goal.link-requires-clause-linkable
link-requires-clause-linkable c = (ordered c.args.watches.now c.order.new.arena c.args.c c.len.result c.requires.kept c.requires.waits c.len.ensures (omega arith) c.order.ensures.reordered).able

pub returns-clause-kept : goal.returns-clause-kept
returns-clause-kept c =
    let w = c.args.watches.now in
    let o = ordered w c.order.new.arena c.args.c c.len.result c.requires.kept c.requires.waits c.len.ensures (omega arith) c.order.ensures.reordered in
    let f = kept-forced c.order.new.arena.clauses c.args.c w.trail c.force.new.trail w.rings w.blockers.items w.head c.force.ensures.forced c.force.ensures.trail o.live o.kept in
    kept-linked c.order.new.arena.clauses c.force.new.trail w.rings c.link.new.rings w.blockers.items w.head c.args.c c.link.ensures.made (newly-linked c.order.new.arena.clauses c.force.new.trail w.rings c.link.new.rings w.head c.args.c o.live o.some o.able c.if-force.ensures.attached c.link.ensures.linked) f

pub returns-clause-advances : goal.returns-clause-advances
returns-clause-advances c =
    let w = c.args.watches.now in
    let o = ordered w c.order.new.arena c.args.c c.len.result c.requires.kept c.requires.waits c.len.ensures (omega arith) c.order.ensures.reordered in
    forced-advances w c.order.new.arena c.force.new.trail c.args.c c.order.ensures.reordered c.force.ensures.forced o.live

pub returns-clause-attached : goal.returns-clause-attached
returns-clause-attached c =
    let w = c.args.watches.now in
    let o = ordered w c.order.new.arena c.args.c c.len.result c.requires.kept c.requires.waits c.len.ensures (omega arith) c.order.ensures.reordered in
    (newly-linked c.order.new.arena.clauses c.force.new.trail w.rings c.link.new.rings w.head c.args.c o.live o.some o.able c.if-force.ensures.attached c.link.ensures.linked).gone
