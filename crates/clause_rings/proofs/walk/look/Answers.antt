-- What a look needs, by the watch whose literal is false, and what each of its four ends leaves.
use Rattle.std.proofs.Common.{ℕ, ◌≡◌, ◌+◌, ◌*◌, ◌/◌, ◌%◌, ◌≤◌, ◌<◌, List, length, refl, ap, sym, subst, arith, inl, inr, Some, false}
use Rattle.std.specs.List.{Contains}
use Rattle.order_ints.specs.declared.literal.Lit.{Lit}
use Rattle.literal_trail.specs.Trail.{truth_in, entry_at}
use Rattle.clause_arena.specs.Clauses.{lits_of, lit_in}
use Rattle.clause_rings.specs.Keeping.{Advances, seen, head_ring}
use Rattle.clause_rings.proofs.Nodes.{stands-held}
use Rattle.literal_trail.specs.declared.entry.Entry.{Entry}
use Rattle.literal_trail.specs.Trail.{Trail, IsTrail, implied}
use Rattle.literal_trail.specs.Standing.{HasTrue, IsUnit, IsFalse}
use Rattle.clause_arena.specs.Clauses.{Arena, swapped}
use Rattle.clause_rings.specs.Watches.{Blocks, IsKept}
use Rattle.clause_rings.specs.Looks.{IsOpenPlace}
use Rattle.std.proofs.lemmas.List.Sorted.{Contains-permutation}
use Rattle.clause_rings.proofs.Entries.{truth-none}
use Rattle.clause_rings.proofs.Literals.{contains-at}
use Rattle.clause_rings.proofs.Kept.{at-watch, ringed-lit, kept-blocked_by, kept-implied, same-after_swap, blocks-plain}
use Rattle.clause_rings.proofs.Two.{blocked}
use Rattle.clause_rings.proofs.Looked.{IsRewatched, rewatched-kept, rewatched-advances, rewatched-left, advances-none, advances-implied, true-now, true-implied, head-level, head-pushed, lent-in}
use Rattle.clause_rings.proofs.walk.look.Goals as goal

pub len-len-requires : goal.len-len-requires
len-len-requires c = (at-watch c.args.watches.now c.args.node c.requires.kept c.requires.head c.requires.node).watched.live

pub lits-requires : goal.lits-requires
lits-requires c = (at-watch c.args.watches.now c.args.node c.requires.kept c.requires.head c.requires.node).watched.live

pub look_at-requires-clause-two : goal.look_at-requires-clause-two
look_at-requires-clause-two c = let w = at-watch c.args.watches.now c.args.node c.requires.kept c.requires.head c.requires.node in omega (arith, w.watched.two, c.len-len.ensures)

pub look_at-requires-clause-in_range : goal.look_at-requires-clause-in_range
look_at-requires-clause-in_range c = λ l is_in. (ringed-lit c.args.watches.now (c.args.node / 2) l c.requires.kept (at-watch c.args.watches.now c.args.node c.requires.kept c.requires.head c.requires.node).watched.live (subst (λ (ls : List Lit). Contains ls l) c.lits.ensures is_in)).high

pub look_at-requires-clause-is_false : goal.look_at-requires-clause-is_false
look_at-requires-clause-is_false c = subst (λ (ls : List Lit). truth_in c.args.watches.now.trail.entries (lit_in ls (c.args.node % 2)) ≡ Some false) (sym c.lits.ensures) (at-watch c.args.watches.now c.args.node c.requires.kept c.requires.head c.requires.node).is_false

pub marked-requires : goal.marked-requires
marked-requires c =
    let w = at-watch c.args.watches.now c.args.node c.requires.kept c.requires.head c.requires.node in
    let r = ringed-lit c.args.watches.now (c.args.node / 2) c.in-Holds.other c.requires.kept w.watched.live (lent-in c.lits.result (lits_of c.args.watches.now.arena.clauses (c.args.node / 2)) c.in-Holds.other c.lits.ensures c.in-Holds.ensures.0) in
    omega (arith, r.small)

pub rewatch-requires-clause-live : goal.rewatch-requires-clause-live
rewatch-requires-clause-live c = (at-watch c.args.watches.now c.args.node c.requires.kept c.requires.head c.requires.node).watched.live

pub rewatch-requires-clause-in_range : goal.rewatch-requires-clause-in_range
rewatch-requires-clause-in_range c =
    let w = at-watch c.args.watches.now c.args.node c.requires.kept c.requires.head c.requires.node in
    let o : IsOpenPlace c.args.watches.now.trail.entries (lits_of c.args.watches.now.arena.clauses (c.args.node / 2)) c.in-Open.k = subst (λ (ls : List Lit). IsOpenPlace c.args.watches.now.trail.entries ls c.in-Open.k) c.lits.ensures c.in-Open.ensures.0 in
    let r = ringed-lit c.args.watches.now (c.args.node / 2) (lit_in (lits_of c.args.watches.now.arena.clauses (c.args.node / 2)) c.in-Open.k) c.requires.kept w.watched.live (contains-at (lits_of c.args.watches.now.arena.clauses (c.args.node / 2)) c.in-Open.k o.1) in
    (r.low, r.small)

pub rewatch-requires-clause-ring : goal.rewatch-requires-clause-ring
rewatch-requires-clause-ring c =
    let w = at-watch c.args.watches.now c.args.node c.requires.kept c.requires.head c.requires.node in
    let o : IsOpenPlace c.args.watches.now.trail.entries (lits_of c.args.watches.now.arena.clauses (c.args.node / 2)) c.in-Open.k = subst (λ (ls : List Lit). IsOpenPlace c.args.watches.now.trail.entries ls c.in-Open.k) c.lits.ensures c.in-Open.ensures.0 in
    (ringed-lit c.args.watches.now (c.args.node / 2) (lit_in (lits_of c.args.watches.now.arena.clauses (c.args.node / 2)) c.in-Open.k) c.requires.kept w.watched.live (contains-at (lits_of c.args.watches.now.arena.clauses (c.args.node / 2)) c.in-Open.k o.1)).ring_high

pub rewatch-requires-clause-node : goal.rewatch-requires-clause-node
rewatch-requires-clause-node c = stands-held c.args.watches.now.rings (head_ring c.args.watches.now) (2 * (c.args.node / 2) + c.args.node % 2) (at-watch c.args.watches.now c.args.node c.requires.kept c.requires.head c.requires.node).stands

pub code_of-requires : goal.code_of-requires
code_of-requires c =
    let w = at-watch c.args.watches.now c.args.node c.requires.kept c.requires.head c.requires.node in
    let r = ringed-lit c.args.watches.now (c.args.node / 2) c.in-Open.other c.requires.kept w.watched.live (lent-in c.lits.result (lits_of c.args.watches.now.arena.clauses (c.args.node / 2)) c.in-Open.other c.lits.ensures c.in-Open.ensures.1) in
    omega (arith, r.small)

pub imply-requires-clause-lit : goal.imply-requires-clause-lit
imply-requires-clause-lit c =
    let w = at-watch c.args.watches.now c.args.node c.requires.kept c.requires.head c.requires.node in
    let r = ringed-lit c.args.watches.now (c.args.node / 2) c.in-Forces.other c.requires.kept w.watched.live (lent-in c.lits.result (lits_of c.args.watches.now.arena.clauses (c.args.node / 2)) c.in-Forces.other c.lits.ensures c.in-Forces.ensures.is_in) in
    (r.low, omega (arith, r.high))

pub marked-requires-in-Forces : goal.marked-requires-in-Forces
marked-requires-in-Forces c =
    let w = at-watch c.args.watches.now c.args.node c.requires.kept c.requires.head c.requires.node in
    let r = ringed-lit c.args.watches.now (c.args.node / 2) c.in-Forces.other c.requires.kept w.watched.live (lent-in c.lits.result (lits_of c.args.watches.now.arena.clauses (c.args.node / 2)) c.in-Forces.other c.lits.ensures c.in-Forces.ensures.is_in) in
    omega (arith, r.small)

pub returns-in-Holds-clause-kept : goal.returns-in-Holds-clause-kept
returns-in-Holds-clause-kept c = let w = c.args.watches.now in kept-blocked_by w.arena.clauses w.trail w.rings w.blockers.items w.head c.args.node c.marked.result (blocked w c.args.node c.in-Holds.other c.len-len.result c.marked.result c.requires.kept c.requires.head c.requires.node c.len-len.ensures c.marked.ensures (lent-in c.lits.result (lits_of w.arena.clauses (c.args.node / 2)) c.in-Holds.other c.lits.ensures c.in-Holds.ensures.0)) c.requires.kept

pub returns-in-Holds-clause-advances : goal.returns-in-Holds-clause-advances
returns-in-Holds-clause-advances c = advances-none (seen c.args.watches.now)

pub returns-in-Holds-clause-visited : goal.returns-in-Holds-clause-visited
returns-in-Holds-clause-visited c = let w = c.args.watches.now in inl (refl, true-now w.trail (lits_of w.arena.clauses (c.args.node / 2)) c.in-Holds.other (entry_at w.trail.entries w.head).level c.requires.kept.db.trail (head-level w c.requires.kept c.requires.head) (lent-in c.lits.result (lits_of w.arena.clauses (c.args.node / 2)) c.in-Holds.other c.lits.ensures c.in-Holds.ensures.0) c.in-Holds.ensures.1)

pub returns-in-Open-clause-kept : goal.returns-in-Open-clause-kept
returns-in-Open-clause-kept c =
    let w = c.args.watches.now in
    let at = at-watch w c.args.node c.requires.kept c.requires.head c.requires.node in
    let o : IsOpenPlace w.trail.entries (lits_of w.arena.clauses (c.args.node / 2)) c.in-Open.k = subst (λ (ls : List Lit). IsOpenPlace w.trail.entries ls c.in-Open.k) c.lits.ensures c.in-Open.ensures.0 in
    let r : IsRewatched w c.args.node c.in-Open.k c.rewatch.new.arena c.rewatch.new.rings = record { arena_is = c.rewatch.ensures.arena; rings_is = c.rewatch.ensures.rings; made = c.rewatch.ensures.made; is_open = o } in
    let two : 2 ≤ length (lits_of w.arena.clauses (c.args.node / 2)) = at.watched.two in
    let small : c.args.node % 2 < 2 = at.small in
    let perm = same-after_swap w.arena.clauses (c.args.node / 2) (c.args.node % 2) c.in-Open.k at.watched.live (omega arith) o.1 in
    let is_in : Contains (lits_of c.rewatch.new.arena.clauses (c.args.node / 2)) c.in-Open.other = subst (λ (a : Arena). Contains (lits_of a.clauses (c.args.node / 2)) c.in-Open.other) (sym c.rewatch.ensures.arena) (Contains-permutation (lits_of w.arena.clauses (c.args.node / 2)) (lits_of (swapped w.arena (c.args.node / 2) (c.args.node % 2) c.in-Open.k).clauses (c.args.node / 2)) c.in-Open.other (perm.each (c.args.node / 2)).lits (lent-in c.lits.result (lits_of w.arena.clauses (c.args.node / 2)) c.in-Open.other c.lits.ensures c.in-Open.ensures.1)) in
    kept-blocked_by c.rewatch.new.arena.clauses w.trail c.rewatch.new.rings w.blockers.items w.head c.args.node c.code_of.result (subst (λ (n : ℕ). Blocks (lits_of c.rewatch.new.arena.clauses (c.args.node / 2)) n) (sym c.code_of.ensures) (blocks-plain (lits_of c.rewatch.new.arena.clauses (c.args.node / 2)) c.in-Open.other (let r = ringed-lit w (c.args.node / 2) c.in-Open.other c.requires.kept at.watched.live (lent-in c.lits.result (lits_of w.arena.clauses (c.args.node / 2)) c.in-Open.other c.lits.ensures c.in-Open.ensures.1) in omega (arith, r.small)) is_in)) (rewatched-kept w c.args.node c.in-Open.k c.rewatch.new.arena c.rewatch.new.rings c.requires.kept at r)

pub returns-in-Open-clause-advances : goal.returns-in-Open-clause-advances
returns-in-Open-clause-advances c =
    let w = c.args.watches.now in
    let o : IsOpenPlace w.trail.entries (lits_of w.arena.clauses (c.args.node / 2)) c.in-Open.k = subst (λ (ls : List Lit). IsOpenPlace w.trail.entries ls c.in-Open.k) c.lits.ensures c.in-Open.ensures.0 in
    let r : IsRewatched w c.args.node c.in-Open.k c.rewatch.new.arena c.rewatch.new.rings = record { arena_is = c.rewatch.ensures.arena; rings_is = c.rewatch.ensures.rings; made = c.rewatch.ensures.made; is_open = o } in
    rewatched-advances w c.args.node c.in-Open.k c.rewatch.new.arena c.rewatch.new.rings (at-watch w c.args.node c.requires.kept c.requires.head c.requires.node) r

pub returns-in-Open-clause-visited : goal.returns-in-Open-clause-visited
returns-in-Open-clause-visited c =
    let w = c.args.watches.now in
    let o : IsOpenPlace w.trail.entries (lits_of w.arena.clauses (c.args.node / 2)) c.in-Open.k = subst (λ (ls : List Lit). IsOpenPlace w.trail.entries ls c.in-Open.k) c.lits.ensures c.in-Open.ensures.0 in
    let r : IsRewatched w c.args.node c.in-Open.k c.rewatch.new.arena c.rewatch.new.rings = record { arena_is = c.rewatch.ensures.arena; rings_is = c.rewatch.ensures.rings; made = c.rewatch.ensures.made; is_open = o } in
    inr (rewatched-left w c.args.node c.in-Open.k c.rewatch.new.arena c.rewatch.new.rings c.requires.kept (at-watch w c.args.node c.requires.kept c.requires.head c.requires.node) r)

pub returns-in-Forces-clause-kept : goal.returns-in-Forces-clause-kept
returns-in-Forces-clause-kept c =
    let w = c.args.watches.now in
    let at = at-watch w c.args.node c.requires.kept c.requires.head c.requires.node in
    let unit : IsUnit w.trail.entries (lits_of w.arena.clauses (c.args.node / 2)) c.in-Forces.other = subst (λ (ls : List Lit). IsUnit w.trail.entries ls c.in-Forces.other) c.lits.ensures c.in-Forces.ensures in
    kept-blocked_by w.arena.clauses c.imply.new.self w.rings w.blockers.items w.head c.args.node c.marked-in-Forces.result (blocked w c.args.node c.in-Forces.other c.len-len.result c.marked-in-Forces.result c.requires.kept c.requires.head c.requires.node c.len-len.ensures c.marked-in-Forces.ensures unit.is_in) (subst (λ (t : Trail). IsKept w.arena.clauses t w.rings w.blockers.items w.head) (sym c.imply.ensures.trail) (kept-implied w.arena.clauses w.trail w.rings w.blockers.items w.head (c.args.node / 2) c.in-Forces.other (subst (λ (t : Trail). IsTrail t) c.imply.ensures.trail c.imply.ensures.is_trail) at.watched.live unit c.requires.kept))

pub returns-in-Forces-clause-advances : goal.returns-in-Forces-clause-advances
returns-in-Forces-clause-advances c =
    let w = c.args.watches.now in
    let at = at-watch w c.args.node c.requires.kept c.requires.head c.requires.node in
    let unit : IsUnit w.trail.entries (lits_of w.arena.clauses (c.args.node / 2)) c.in-Forces.other = subst (λ (ls : List Lit). IsUnit w.trail.entries ls c.in-Forces.other) c.lits.ensures c.in-Forces.ensures in
    subst (λ (t : Trail). Advances (seen w) (record { clauses = w.arena.clauses; trail = t; spare_lits = w.arena.spare_lits; spare_clauses = w.arena.spare_clauses })) (sym c.imply.ensures.trail) (advances-implied w.arena.clauses w.trail w.arena.spare_lits w.arena.spare_clauses c.in-Forces.other (c.args.node / 2) at.watched.live unit)

pub returns-in-Forces-clause-visited : goal.returns-in-Forces-clause-visited
returns-in-Forces-clause-visited c =
    let w = c.args.watches.now in
    let unit : IsUnit w.trail.entries (lits_of w.arena.clauses (c.args.node / 2)) c.in-Forces.other = subst (λ (ls : List Lit). IsUnit w.trail.entries ls c.in-Forces.other) c.lits.ensures c.in-Forces.ensures in
    inl (refl, subst (λ (t : Trail). HasTrue t.entries (lits_of w.arena.clauses (c.args.node / 2)) (entry_at t.entries w.head).level) (sym c.imply.ensures.trail) (true-implied w.trail (lits_of w.arena.clauses (c.args.node / 2)) c.in-Forces.other (c.args.node / 2) (entry_at (implied w.trail c.in-Forces.other (c.args.node / 2)).entries w.head).level (let pushed : (entry_at (implied w.trail c.in-Forces.other (c.args.node / 2)).entries w.head).level ≡ (entry_at w.trail.entries w.head).level = ap (λ (e : Entry). e.level) (head-pushed w.trail.entries (record { lit = c.in-Forces.other; level = w.trail.level; reason = Some (c.args.node / 2) }) w.head c.requires.head) in omega (arith, head-level w c.requires.kept c.requires.head, pushed)) unit.is_in (truth-none w.trail.entries c.in-Forces.other unit.free)))

pub returns-in-Fails-clause-advances : goal.returns-in-Fails-clause-advances
returns-in-Fails-clause-advances c = advances-none (seen c.args.watches.now)

pub returns-in-Fails-clause-conflict : goal.returns-in-Fails-clause-conflict
returns-in-Fails-clause-conflict c = ((at-watch c.args.watches.now c.args.node c.requires.kept c.requires.head c.requires.node).watched.live, subst (λ (ls : List Lit). IsFalse c.args.watches.now.trail.entries ls) c.lits.ensures c.in-Fails.ensures)
