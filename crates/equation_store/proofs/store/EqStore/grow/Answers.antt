use Rattle.std.proofs.Common.{◌∙◌, ◌+◌, ◌++◌, List, ℕ, length, replicate, refl, ap, arith}
use Rattle.std.specs.List.{range_with_len}
use Rattle.order_ints.specs.declared.atom.Atom.{Atom}
use Rattle.order_ints.specs.Label.{own_labels}
use Rattle.equation_store.specs.Store.{Store, IsKept}
use Rattle.equation_store.proofs.Growing.{written-grown}
use Rattle.equation_store.proofs.Stored.{store-from, store-same}
use Rattle.equation_store.proofs.store.EqStore.grow.Goals as goal
use Rattle.equation_store.proofs.store.EqStore.grow.Goals.{After-push_alone}

pub returns-in_err-reserve-clause-store : goal.returns-in_err-reserve-clause-store
returns-in_err-reserve-clause-store c =
    store-same c.self.inside.labels.items c.self.inside.sizes.items c.self.inside.next.items c.reserve.new.self.items c.self.inside.sizes.items c.self.inside.next.items c.self.invariant c.reserve.ensures.items refl refl

pub returns-in_err-reserve-2-clause-store : goal.returns-in_err-reserve-2-clause-store
returns-in_err-reserve-2-clause-store c =
    store-same c.self.inside.labels.items c.self.inside.sizes.items c.self.inside.next.items c.reserve.new.self.items c.reserve-2.new.self.items c.self.inside.next.items c.self.invariant c.reserve.ensures.items c.reserve-2.ensures.items refl

pub returns-in_err-reserve-3-clause-store : goal.returns-in_err-reserve-3-clause-store
returns-in_err-reserve-3-clause-store c =
    store-same c.self.inside.labels.items c.self.inside.sizes.items c.self.inside.next.items c.reserve.new.self.items c.reserve-2.new.self.items c.reserve-3.new.self.items c.self.invariant c.reserve.ensures.items c.reserve-2.ensures.items c.reserve-3.ensures.items

made : (c : After-push_alone) → IsKept c.push_own_labels.new.labels.items c.push_ones.new.sizes.items c.push_alone.new.next.items
made c =
    written-grown c.self.inside.labels.items c.self.inside.sizes.items c.self.inside.next.items c.args.more c.push_own_labels.new.labels.items c.push_ones.new.sizes.items c.push_alone.new.next.items c.self.invariant
    (omega (arith, c.requires, ap (λ (s : Store). length s.view) c.self.view_is))
    (c.push_own_labels.ensures ∙ ap (λ (l : List Atom). l ++ own_labels (length l + 1) c.args.more) c.reserve.ensures.items)
    (c.push_ones.ensures ∙ ap (λ (l : List ℕ). l ++ replicate c.args.more 1) c.reserve-2.ensures.items)
    (c.push_alone.ensures ∙ ap (λ (l : List ℕ). l ++ range_with_len (length l + 1) c.args.more) c.reserve-3.ensures.items)

pub invariant_of-self-2 : goal.invariant_of-self-2
invariant_of-self-2 c = made c

pub returns-clause-store : goal.returns-clause-store
returns-clause-store c =
    let h = goal.at.returns-clause-store c in
    store-from h.After-push_alone.push_own_labels.new.labels.items h.After-push_alone.push_ones.new.sizes.items h.After-push_alone.push_alone.new.next.items (made h.After-push_alone)
