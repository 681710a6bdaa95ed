use Rattle.std.proofs.Common.{◌≡◌, ◌∙◌, ◌-◌, ◌+◌, List, ℕ, length, ap, sym, subst, arith}
use Rattle.std.specs.Vec.{with_items}
use Rattle.std.proofs.lemmas.List.{with_items_is}
use Rattle.index_ring.specs.Lists.{times}
use Rattle.core_occurrences.specs.declared.chains.Node.{Node}
use Rattle.core_occurrences.specs.Lists.{added, with_id}
use Rattle.core_occurrences.specs.Chains.{owners}
use Rattle.core_occurrences.specs.Held.{ids_in}
use Rattle.core_occurrences.proofs.Keeping.{KeepsLists, kept-added}
use Rattle.core_occurrences.proofs.lists.BodyOccurrences.add.Goals as goal
use Rattle.core_occurrences.proofs.lists.BodyOccurrences.add.Goals.{After-link_all}

made : (c : After-link_all) → KeepsLists c.link_all.new.rings (with_items c.self.inside.nodes c.link_all.new.nodes).items (with_items c.self.inside.heads c.link_all.new.heads).items (c.self.inside.room - length c.args.vars.now) (added c.args.self.now c.args.id c.args.vars.now)
made c =
    let nodes_are : (with_items c.self.inside.nodes c.link_all.new.nodes).items ≡ c.link_all.new.nodes = with_items_is c.self.inside.nodes c.link_all.new.nodes (omega (arith, c.link_all.auto.nodes, c.as_mut_slice-nodes.ensures.len)) in
    let heads_are : (with_items c.self.inside.heads c.link_all.new.heads).items ≡ c.link_all.new.heads = with_items_is c.self.inside.heads c.link_all.new.heads (omega (arith, c.link_all.auto.heads, c.as_mut_slice.ensures.len)) in
    let free : times 0 (owners c.link_all.new.nodes) + length c.args.vars.now ≡ times 0 (owners c.self.inside.nodes.items) = c.link_all.ensures.free ∙ ap (λ (ns : List Node). times 0 (owners ns)) c.as_mut_slice-nodes.ensures.value in
    subst (λ (ns : List Node). KeepsLists c.link_all.new.rings ns (with_items c.self.inside.heads c.link_all.new.heads).items (c.self.inside.room - length c.args.vars.now) (added c.args.self.now c.args.id c.args.vars.now)) (sym nodes_are)
    (subst (λ (hs : List ℕ). KeepsLists c.link_all.new.rings c.link_all.new.nodes hs (c.self.inside.room - length c.args.vars.now) (added c.args.self.now c.args.id c.args.vars.now)) (sym heads_are)
    (kept-added c.self.inside.rings c.self.inside.nodes.items c.self.inside.heads.items c.self.inside.room c.args.self.now c.self.invariant c.self.view_is c.args.id c.args.vars.now c.link_all.new.rings c.link_all.new.nodes c.link_all.new.heads
    c.requires.id.0 c.requires.id.1 c.requires.increasing c.requires.vars c.requires.fresh c.requires.room
    (c.link_all.ensures.ids ∙ ap (λ (ns : List Node). with_id c.args.id c.args.vars.now 1 (ids_in ns c.self.inside.rings)) c.as_mut_slice-nodes.ensures.value)
    c.link_all.ensures.held free c.link_all.ensures.chains
    (c.link_all.auto.nodes ∙ ap length c.as_mut_slice-nodes.ensures.value)
    (c.link_all.auto.heads ∙ ap length c.as_mut_slice.ensures.value)))

pub invariant_of-self : goal.invariant_of-self
invariant_of-self c = (made (goal.at.invariant_of-self c).After-link_all).kept

pub returns-clause-occurrences : goal.returns-clause-occurrences
returns-clause-occurrences c = (made (goal.at.returns-clause-occurrences c).After-link_all).listed
