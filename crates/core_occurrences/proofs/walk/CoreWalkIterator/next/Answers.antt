use Rattle.std.proofs.Common.{◌≡◌, ◌∙◌, ◌∷◌, List, ℕ, Option, Some, ap, map, sym, subst, rules}
use Rattle.std.specs.Prelude.{IfSome}
use Rattle.std.specs.Iterator.{MakesProgress, item_count}
use Rattle.std.specs.declared.iter.Iterator.{can_next-default}
use Rattle.index_ring.specs.Lists.{Stands, list_of}
use Rattle.core_occurrences.specs.Chains.{owner_of}
use Rattle.core_occurrences.specs.Kept.{left_of}
use Rattle.core_occurrences.proofs.Walking.{node-in, not-free, left-more, walking-more}
use Rattle.core_occurrences.proofs.walk.CoreWalkIterator.next.Goals as goal
use Rattle.core_occurrences.proofs.walk.CoreWalkIterator.next.Goals.{After-after-self-inside}

pub after-self-inside-requires : goal.after-self-inside-requires
after-self-inside-requires c =
    let here : Stands c.self.inside.rings.now c.self.inside.ring c.in_ok-node.node = subst (λ (o : Option ℕ). IfSome o (Stands c.self.inside.rings.now c.self.inside.ring)) c.in_ok-node.was c.self.invariant.stands in
    not-free c.self.inside.nodes.now c.self.inside.rings.now c.self.inside.ring c.self.invariant.held c.in_ok-node.node here

pub bounds-self-inside-node : goal.bounds-self-inside-node
bounds-self-inside-node c =
    let here : Stands c.self.inside.rings.now c.self.inside.ring c.in_ok-node.node = subst (λ (o : Option ℕ). IfSome o (Stands c.self.inside.rings.now c.self.inside.ring)) c.in_ok-node.was c.self.invariant.stands in
    node-in c.self.inside.nodes.now c.self.inside.rings.now c.self.inside.ring c.self.invariant.held c.in_ok-node.node here

stands : (c : After-after-self-inside) → Stands c.self.inside.rings.now c.self.inside.ring c.in_ok-node.node
stands c = subst (λ (o : Option ℕ). IfSome o (Stands c.self.inside.rings.now c.self.inside.ring)) c.in_ok-node.was c.self.invariant.stands

pub invariant_of-self : goal.invariant_of-self
invariant_of-self c =
    let h = (goal.at.invariant_of-self c).After-after-self-inside in
    walking-more h.self.inside.nodes.now h.self.inside.rings.now h.self.inside.ring h.self.invariant.held h.in_ok-node.node (stands h) h.after-self-inside.result (h.after-self-inside.ensures.node h.self.inside.ring (stands h))

step : (c : After-after-self-inside) → c.args.self.now ≡ owner_of c.self.inside.nodes.now c.in_ok-node.node ∷ map (owner_of c.self.inside.nodes.now) (left_of c.after-self-inside.result (list_of c.self.inside.rings.now c.self.inside.ring))
step c =
    sym c.self.view_is
    ∙ ap (λ (o : Option ℕ). map (owner_of c.self.inside.nodes.now) (left_of o (list_of c.self.inside.rings.now c.self.inside.ring))) c.in_ok-node.was
    ∙ ap (map (owner_of c.self.inside.nodes.now)) (left-more c.self.inside.nodes.now c.self.inside.rings.now c.self.inside.ring c.self.invariant.held c.in_ok-node.node (stands c) c.after-self-inside.result (c.after-self-inside.ensures.node c.self.inside.ring (stands c)))

pub returns-clause-steps : goal.returns-clause-steps
returns-clause-steps c = step (goal.at.returns-clause-steps c).After-after-self-inside

progress : (x : ℕ) (list : List ℕ) → MakesProgress {S = List ℕ} {A = ℕ} (can_next-default (List ℕ) ℕ) (item_count (λ walk. walk)) (x ∷ list) (Some x) list
progress x list = search rules

pub returns-clause-goes : goal.returns-clause-goes
returns-clause-goes c =
    let h = (goal.at.returns-clause-goes c).After-after-self-inside in
    let x : ℕ = owner_of h.self.inside.nodes.now h.in_ok-node.node in
    let list : List ℕ = map (owner_of h.self.inside.nodes.now) (left_of h.after-self-inside.result (list_of h.self.inside.rings.now h.self.inside.ring)) in
    subst (λ (whole : List ℕ). MakesProgress {S = List ℕ} {A = ℕ} (can_next-default (List ℕ) ℕ) (item_count (λ walk. walk)) whole (Some (owner_of h.self.inside.nodes.now h.in_ok-node.node)) (map (owner_of h.self.inside.nodes.now) (left_of h.after-self-inside.result (list_of h.self.inside.rings.now h.self.inside.ring)))) (sym (step h))
    (progress x list)
