-- A walk through the ring of the literal that the entry at the head makes false.
use Rattle.std.proofs.Common.{ℕ, ◌≡◌, sym, ◌∙◌, subst, ap, not}
use Rattle.order_ints.specs.declared.literal.Lit.{Lit}
use Rattle.order_ints.specs.Truth.{not_lit}
use Rattle.literal_trail.specs.declared.entry.Entry.{Entry}
use Rattle.literal_trail.specs.Trail.{entry_at}
use Rattle.clause_arena.specs.Codes.{code_of}
use Rattle.index_ring.specs.Lists.{Stands, list_of}
use Rattle.clause_rings.specs.Keeping.{seen, head_ring}
use Rattle.clause_rings.proofs.Nodes.{stands-held}
use Rattle.clause_rings.proofs.Guards.{lit-same}
use Rattle.clause_rings.proofs.Looked.{advances-both}
use Rattle.clause_rings.proofs.Walked.{at-node, next-stands, if-some, walked-start, walked-next, walked-end}
use Rattle.clause_rings.proofs.walk.walk.Goals as goal

-- the negation of a literal, as the code makes it
negation : (l e : Lit) (x : Lit) → e ≡ x → l.var ≡ e.var → l.positive ≡ not e.positive → l ≡ not_lit x
negation l e x is v p = lit-same l (not_lit x) (v ∙ ap (λ (y : Lit). y.var) is) (p ∙ ap (λ (y : Lit). not y.positive) is)

pub loop-at-init : goal.loop-at-init
loop-at-init c =
    let w = c.args.watches.now in
    let lit : c.negated.result ≡ not_lit (entry_at w.trail.entries w.head).lit = negation c.negated.result c.entry_at.result.lit (entry_at w.trail.entries w.head).lit (ap (λ (e : Entry). e.lit) c.entry_at.ensures) c.negated.ensures.var c.negated.ensures.sign in
    walked-start w c.code_of-ring.result c.first-at.result c.blocker_of-blocker.result c.requires.kept c.requires.head (sym (c.code_of-ring.ensures ∙ ap code_of lit)) c.first-at.ensures.node c.blocker_of-blocker.ensures

pub after-at-requires : goal.after-at-requires
after-at-requires c = stands-held c.loop-at.watches.rings c.code_of-ring.result c.in-Some.node (at-node c.args.watches.now c.loop-at.watches c.code_of-ring.result c.loop-at.at c.loop-at.blocker c.in-Some.node c.loop-at.invariant c.in-Some.is).stands

pub blocker_of-ahead-requires-clause-node : goal.blocker_of-ahead-requires-clause-node
blocker_of-ahead-requires-clause-node c =
    let n = at-node c.args.watches.now c.loop-at.watches c.code_of-ring.result c.loop-at.at c.loop-at.blocker c.in-Some.node c.loop-at.invariant c.in-Some.is in
    if-some c.after-at.result (λ (v : ℕ). Stands c.loop-at.watches.rings (head_ring c.loop-at.watches) v) (λ v is. subst (λ (r : ℕ). Stands c.loop-at.watches.rings r v) (sym c.loop-at.invariant.ring_is) (next-stands (list_of c.loop-at.watches.rings c.code_of-ring.result) c.loop-at.invariant.split.front n.back c.in-Some.node v n.list_is (sym n.follows ∙ (sym (c.after-at.ensures.node c.code_of-ring.result n.stands) ∙ is))))

pub meet-requires-clause-node : goal.meet-requires-clause-node
meet-requires-clause-node c = subst (λ (r : ℕ). Stands c.loop-at.watches.rings r c.in-Some.node) (sym c.loop-at.invariant.ring_is) (at-node c.args.watches.now c.loop-at.watches c.code_of-ring.result c.loop-at.at c.loop-at.blocker c.in-Some.node c.loop-at.invariant c.in-Some.is).stands

pub meet-requires-clause-blocker : goal.meet-requires-clause-blocker
meet-requires-clause-blocker c = λ v e. c.loop-at.invariant.blocked v (c.in-Some.is ∙ e)

pub returns-then-meet-clause-advances : goal.returns-then-meet-clause-advances
returns-then-meet-clause-advances c = advances-both (seen c.args.watches.now) (seen c.loop-at.watches) (seen c.meet.new.watches) c.loop-at.invariant.advances c.meet.ensures.advances

pub loop-at-smaller : goal.loop-at-smaller
loop-at-smaller c =
    let n = at-node c.args.watches.now c.loop-at.watches c.code_of-ring.result c.loop-at.at c.loop-at.blocker c.in-Some.node c.loop-at.invariant c.in-Some.is in
    (walked-next c.args.watches.now c.loop-at.watches c.meet.new.watches c.code_of-ring.result c.loop-at.at c.after-at.result c.loop-at.blocker c.blocker_of-ahead.result c.in-Some.node c.loop-at.invariant c.in-Some.is (c.after-at.ensures.node c.code_of-ring.result n.stands) c.blocker_of-ahead.ensures c.if-meet.ensures.kept c.if-meet.ensures.advances c.if-meet.ensures.head c.if-meet.ensures.visited).1

pub loop-at-preserved : goal.loop-at-preserved
loop-at-preserved c =
    let n = at-node c.args.watches.now c.loop-at.watches c.code_of-ring.result c.loop-at.at c.loop-at.blocker c.in-Some.node c.loop-at.invariant c.in-Some.is in
    (walked-next c.args.watches.now c.loop-at.watches c.meet.new.watches c.code_of-ring.result c.loop-at.at c.after-at.result c.loop-at.blocker c.blocker_of-ahead.result c.in-Some.node c.loop-at.invariant c.in-Some.is (c.after-at.ensures.node c.code_of-ring.result n.stands) c.blocker_of-ahead.ensures c.if-meet.ensures.kept c.if-meet.ensures.advances c.if-meet.ensures.head c.if-meet.ensures.visited).0

pub returns-clause-none : goal.returns-clause-none
returns-clause-none c = walked-end c.args.watches.now c.loop-at.watches c.code_of-ring.result c.loop-at.at c.loop-at.blocker c.loop-at.invariant c.in_default.is
