use Rattle.std.proofs.Common.{◌≡◌, ◌∙◌, ◌+◌, ◌++◌, List, ℕ, length, replicate, refl, ap, sym, subst, arith}
use Rattle.std.specs.Vec.{with_items}
use Rattle.std.proofs.lemmas.List.{with_items_is, length-append, length-replicate}
use Rattle.index_ring.specs.Lists.{RingLists}
use Rattle.core_occurrences.specs.declared.chains.Node.{Node}
use Rattle.core_occurrences.specs.Lists.{IsOccurrences, grown}
use Rattle.core_occurrences.specs.Chains.{AreChains, IsFreed}
use Rattle.core_occurrences.specs.Kept.{lists_of}
use Rattle.core_occurrences.proofs.Added.{chains-heads}
use Rattle.core_occurrences.proofs.Keeping.{KeepsLists, kept-grown}
use Rattle.core_occurrences.proofs.lists.BodyOccurrences.grow.Goals as goal
use Rattle.core_occurrences.proofs.lists.BodyOccurrences.grow.Goals.{After-push_free}

pub returns-in_err-reserve-clause-occurrences : goal.returns-in_err-reserve-clause-occurrences
returns-in_err-reserve-clause-occurrences c =
    subst (λ (ns : List Node). IsOccurrences (lists_of c.self.inside.rings ns c.self.inside.heads.items c.self.inside.room)) (sym c.reserve.ensures.items) c.self.invariant.listed

pub returns-in_err-reserve-2-clause-occurrences : goal.returns-in_err-reserve-2-clause-occurrences
returns-in_err-reserve-2-clause-occurrences c =
    subst (λ (ns : List Node). IsOccurrences (lists_of c.self.inside.rings ns c.reserve-2.new.self.items c.self.inside.room)) (sym c.reserve.ensures.items)
    (subst (λ (hs : List ℕ). IsOccurrences (lists_of c.self.inside.rings c.self.inside.nodes.items hs c.self.inside.room)) (sym c.reserve-2.ensures.items) c.self.invariant.listed)

pub returns-in_err-grow-clause-occurrences : goal.returns-in_err-grow-clause-occurrences
returns-in_err-grow-clause-occurrences c =
    subst (λ (rs : RingLists). IsOccurrences (lists_of rs c.reserve.new.self.items c.reserve-2.new.self.items c.self.inside.room)) (sym c.in_err-grow.ensures.err)
    (subst (λ (ns : List Node). IsOccurrences (lists_of c.self.inside.rings ns c.reserve-2.new.self.items c.self.inside.room)) (sym c.reserve.ensures.items)
    (subst (λ (hs : List ℕ). IsOccurrences (lists_of c.self.inside.rings c.self.inside.nodes.items hs c.self.inside.room)) (sym c.reserve-2.ensures.items) c.self.invariant.listed))

pub push_free-requires-clause-chains : goal.push_free-requires-clause-chains
push_free-requires-clause-chains c =
    subst (λ (hs : List ℕ). AreChains c.reserve.new.self.items hs) (sym c.as_mut_slice.ensures.value)
    (subst (λ (ns : List Node). AreChains ns c.push_heads.new.heads.items) (sym c.reserve.ensures.items)
    (chains-heads c.self.inside.nodes.items c.self.inside.heads.items c.push_heads.new.heads.items c.args.ids c.self.invariant.chains (c.push_heads.ensures ∙ ap (λ (hs : List ℕ). hs ++ replicate c.args.ids 0) c.reserve-2.ensures.items)))

made : (c : After-push_free) → KeepsLists c.grow.new.self c.push_free.new.nodes.items (with_items c.push_heads.new.heads c.push_free.new.heads).items (c.self.inside.room + c.args.nodes) (grown c.args.self.now c.args.vars c.args.ids c.args.nodes)
made c =
    let heads_are : (with_items c.push_heads.new.heads c.push_free.new.heads).items ≡ c.push_free.new.heads = with_items_is c.push_heads.new.heads c.push_free.new.heads (omega (arith, c.push_free.auto.heads, c.as_mut_slice.ensures.len)) in
    let head_count : length c.push_free.new.heads ≡ length c.self.inside.heads.items + c.args.ids =
    c.push_free.auto.heads ∙ ap length c.as_mut_slice.ensures.value ∙ ap length c.push_heads.ensures ∙ length-append c.reserve-2.new.self.items (replicate c.args.ids 0) ∙ (omega (arith, length-replicate c.args.ids (let none : ℕ = 0 in none), ap length c.reserve-2.ensures.items)) in
    subst (λ (hs : List ℕ). KeepsLists c.grow.new.self c.push_free.new.nodes.items hs (c.self.inside.room + c.args.nodes) (grown c.args.self.now c.args.vars c.args.ids c.args.nodes)) (sym heads_are)
    (kept-grown c.self.inside.rings c.self.inside.nodes.items c.self.inside.heads.items c.self.inside.room c.args.self.now c.self.invariant c.self.view_is c.args.vars c.args.ids c.args.nodes c.grow.new.self c.push_free.new.nodes.items c.push_free.new.heads
    (c.if-not-fits.ensures.rings refl) (omega (arith, c.if-not-fits.ensures.ids refl, c.len.ensures)) c.in_ok-grow.ensures.lists c.in_ok-grow.ensures.rings
    (subst (λ (ns : List Node). IsFreed ns c.push_free.new.nodes.items c.args.nodes) c.reserve.ensures.items c.push_free.ensures.freed)
    c.push_free.ensures.chains head_count)

pub invariant_of-self-2 : goal.invariant_of-self-2
invariant_of-self-2 c = (made (goal.at.invariant_of-self-2 c).After-push_free).kept

pub returns-clause-lists : goal.returns-clause-lists
returns-clause-lists c = (made (goal.at.returns-clause-lists c).After-push_free).shown

pub returns-clause-occurrences : goal.returns-clause-occurrences
returns-clause-occurrences c = (made (goal.at.returns-clause-occurrences c).After-push_free).listed
