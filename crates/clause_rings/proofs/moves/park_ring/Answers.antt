-- The clauses of a ring wait, one after another.
use Rattle.std.proofs.Common.{ℕ, ◌≡◌, ◌≢◌, ◌/◌, ◌<◌, ◌∙◌, List, length, sym, subst, ap, arith, refl, not}
use Rattle.order_ints.specs.declared.literal.Lit.{Lit}
use Rattle.order_ints.specs.Truth.{not_lit}
use Rattle.literal_trail.specs.declared.entry.Entry.{Entry}
use Rattle.literal_trail.specs.Trail.{entry_at}
use Rattle.clause_arena.specs.Codes.{code_of}
use Rattle.index_ring.specs.Lists.{Stands, list_of}
use Rattle.clause_rings.specs.Keeping.{Keeps, head_ring}
use Rattle.clause_rings.specs.declared.watches.Watches.{Watches}
use Rattle.clause_rings.proofs.Guards.{lit-same}
use Rattle.clause_rings.proofs.Kept.{ringed}
use Rattle.clause_rings.proofs.ComeAndGo.{parkable, kept-parked, parked-list, none-stands}
use Rattle.clause_rings.proofs.moves.park_ring.Goals as goal

-- the negation of a literal, as the code makes it
negation : (l e : Lit) (x : Lit) → e ≡ x → l.var ≡ e.var → l.positive ≡ not e.positive → l ≡ not_lit x
negation l e x is v p = lit-same l (not_lit x) (v ∙ ap (λ (y : Lit). y.var) is) (p ∙ ap (λ (y : Lit). not y.positive) is)

-- the ring is not that of the clauses that wait
head-high : (w : Watches) (ring : ℕ) → Keeps w → w.head < length w.trail.entries → head_ring w ≡ ring → (ring ≢ 0) × (0 < length w.rings.lists)
head-high w ring kept lt is =
    let r = ringed w.trail.vars (length w.rings.lists) (not_lit (entry_at w.trail.entries w.head).lit) kept.db.trail.few kept.watching.ring_count (kept.db.trail.inside w.head lt) in
    ((λ e. absurd (omega (arith, r.ring_low))), omega (arith, r.ring_high))

pub loop-node-init : goal.loop-node-init
loop-node-init c =
    let w = c.args.watches.now in
    let lit : c.negated.result ≡ not_lit (entry_at w.trail.entries w.head).lit = negation c.negated.result c.entry_at.result.lit (entry_at w.trail.entries w.head).lit (ap (λ (e : Entry). e.lit) c.entry_at.ensures) c.negated.ensures.var c.negated.ensures.sign in
    (c.requires.kept, refl, refl, refl, sym (c.code_of-ring.ensures ∙ ap code_of lit), c.requires.head)

pub park-requires-clause-first : goal.park-requires-clause-first
park-requires-clause-first c = (parkable c.loop-node.watches c.code_of-ring.result c.in-Some.node c.loop-node.invariant.0 c.loop-node.invariant.5 c.loop-node.invariant.4 c.in-Some.ensures.node).first

pub park-requires-clause-second : goal.park-requires-clause-second
park-requires-clause-second c = (parkable c.loop-node.watches c.code_of-ring.result c.in-Some.node c.loop-node.invariant.0 c.loop-node.invariant.5 c.loop-node.invariant.4 c.in-Some.ensures.node).second

pub park-requires-clause-node : goal.park-requires-clause-node
park-requires-clause-node c = (parkable c.loop-node.watches c.code_of-ring.result c.in-Some.node c.loop-node.invariant.0 c.loop-node.invariant.5 c.loop-node.invariant.4 c.in-Some.ensures.node).inside

pub loop-node-smaller : goal.loop-node-smaller
loop-node-smaller c =
    let w = c.loop-node.watches in
    let p = parkable w c.code_of-ring.result c.in-Some.node c.loop-node.invariant.0 c.loop-node.invariant.5 c.loop-node.invariant.4 c.in-Some.ensures.node in
    let high = head-high w c.code_of-ring.result c.loop-node.invariant.0 c.loop-node.invariant.5 c.loop-node.invariant.4 in
    subst (λ (l : List ℕ). length l < length (list_of w.rings c.code_of-ring.result)) (sym (parked-list w.rings c.park.new.rings (c.in-Some.node / 2) c.code_of-ring.result high.1 high.0 c.park.ensures.parked)) p.less

pub loop-node-preserved : goal.loop-node-preserved
loop-node-preserved c =
    let w = c.loop-node.watches in
    let p = parkable w c.code_of-ring.result c.in-Some.node c.loop-node.invariant.0 c.loop-node.invariant.5 c.loop-node.invariant.4 c.in-Some.ensures.node in
    (kept-parked w.arena.clauses w.trail w.rings c.park.new.rings w.blockers.items w.head (c.in-Some.node / 2) c.park.ensures.parked c.park.ensures.made p.watched c.loop-node.invariant.0, c.loop-node.invariant.1, c.loop-node.invariant.2, c.loop-node.invariant.3, c.loop-node.invariant.4, c.loop-node.invariant.5)

pub returns-clause-none : goal.returns-clause-none
returns-clause-none c = λ v h. none-stands c.loop-node.watches.rings c.code_of-ring.result v (sym c.in_default.is ∙ c.first.ensures.node) (subst (λ (r : ℕ). Stands c.loop-node.watches.rings r v) c.loop-node.invariant.4 h)
