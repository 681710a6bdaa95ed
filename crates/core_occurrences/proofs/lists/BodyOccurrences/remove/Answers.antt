use Rattle.std.proofs.Common.{◌≡◌, ◌∙◌, ◌+◌, List, ℕ, length, map, ap, sym, subst, arith}
use Rattle.std.specs.Vec.{with_items}
use Rattle.std.proofs.lemmas.List.{with_items_is}
use Rattle.index_ring.specs.Lists.{times, times_in_all, without}
use Rattle.core_occurrences.specs.declared.chains.Node.{Node}
use Rattle.core_occurrences.specs.Lists.{removed}
use Rattle.core_occurrences.specs.Chains.{owners}
use Rattle.core_occurrences.specs.Held.{ids_in}
use Rattle.core_occurrences.proofs.Keeping.{KeepsLists, kept-removed, room-fits}
use Rattle.core_occurrences.proofs.lists.BodyOccurrences.remove.Goals as goal
use Rattle.core_occurrences.proofs.lists.BodyOccurrences.remove.Goals.{After-unlink_all-gone}

counted : (c : After-unlink_all-gone) → c.unlink_all-gone.result ≡ times_in_all c.args.id (ids_in c.self.inside.nodes.items c.self.inside.rings)
counted c = c.unlink_all-gone.ensures.count ∙ ap (λ (ns : List Node). times_in_all c.args.id (ids_in ns c.self.inside.rings)) c.as_mut_slice-nodes.ensures.value

made : (c : After-unlink_all-gone) → KeepsLists c.unlink_all-gone.new.rings (with_items c.self.inside.nodes c.unlink_all-gone.new.nodes).items (with_items c.self.inside.heads c.unlink_all-gone.new.heads).items (c.self.inside.room + c.unlink_all-gone.result) (removed c.args.self.now c.args.id)
made c =
    let nodes_are : (with_items c.self.inside.nodes c.unlink_all-gone.new.nodes).items ≡ c.unlink_all-gone.new.nodes = with_items_is c.self.inside.nodes c.unlink_all-gone.new.nodes (omega (arith, c.unlink_all-gone.auto.nodes, c.as_mut_slice-nodes.ensures.len)) in
    let heads_are : (with_items c.self.inside.heads c.unlink_all-gone.new.heads).items ≡ c.unlink_all-gone.new.heads = with_items_is c.self.inside.heads c.unlink_all-gone.new.heads (omega (arith, c.unlink_all-gone.auto.heads, c.as_mut_slice.ensures.len)) in
    let free : times 0 (owners c.unlink_all-gone.new.nodes) ≡ times 0 (owners c.self.inside.nodes.items) + c.unlink_all-gone.result = c.unlink_all-gone.ensures.free ∙ ap (λ (ns : List Node). times 0 (owners ns) + c.unlink_all-gone.result) c.as_mut_slice-nodes.ensures.value in
    subst (λ (ns : List Node). KeepsLists c.unlink_all-gone.new.rings ns (with_items c.self.inside.heads c.unlink_all-gone.new.heads).items (c.self.inside.room + c.unlink_all-gone.result) (removed c.args.self.now c.args.id)) (sym nodes_are)
    (subst (λ (hs : List ℕ). KeepsLists c.unlink_all-gone.new.rings c.unlink_all-gone.new.nodes hs (c.self.inside.room + c.unlink_all-gone.result) (removed c.args.self.now c.args.id)) (sym heads_are)
    (kept-removed c.self.inside.rings c.self.inside.nodes.items c.self.inside.heads.items c.self.inside.room c.args.self.now c.self.invariant c.self.view_is c.args.id c.unlink_all-gone.result c.unlink_all-gone.new.rings c.unlink_all-gone.new.nodes c.unlink_all-gone.new.heads
    (c.unlink_all-gone.ensures.ids ∙ ap (λ (ns : List Node). map (without c.args.id) (ids_in ns c.self.inside.rings)) c.as_mut_slice-nodes.ensures.value)
    c.unlink_all-gone.ensures.held (counted c) free c.unlink_all-gone.ensures.chains
    (c.unlink_all-gone.auto.nodes ∙ ap length c.as_mut_slice-nodes.ensures.value)
    (c.unlink_all-gone.auto.heads ∙ ap length c.as_mut_slice.ensures.value)))

pub overflow_add-self : goal.overflow_add-self
overflow_add-self c =
    let h = (goal.at.overflow_add-self c).After-unlink_all-gone in
    omega (arith, counted h, room-fits h.self.inside.rings h.self.inside.nodes.items h.self.inside.heads.items h.self.inside.room h.args.self.now h.self.invariant h.self.view_is h.args.id)

pub invariant_of-self : goal.invariant_of-self
invariant_of-self c = (made (goal.at.invariant_of-self c).After-unlink_all-gone).kept

pub returns-clause-occurrences : goal.returns-clause-occurrences
returns-clause-occurrences c = (made (goal.at.returns-clause-occurrences c).After-unlink_all-gone).listed
