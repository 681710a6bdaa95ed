use Rattle.std.proofs.Common.{◌≡◌, ◌∙◌, ap, subst, sym, arith, length, List}
use Rattle.order_ints.specs.declared.atom.Atom.{Atom}
use Rattle.order_ints.specs.Label.{IsOwnLabel}
use Rattle.equation_store.specs.Class.{first_in}
use Rattle.equation_store.specs.Store.{Store, IsStore, class_walk}
use Rattle.equation_store.proofs.Stored.{store-from, walk-begins}
use Rattle.equation_store.proofs.store.EqStore.first.Goals as goal

pub returns-clause-value : goal.returns-clause-value
returns-clause-value c =
    let view : c.self.inside.labels.items ≡ c.args.self.now.view = ap (λ (s : Store). s.view) c.self.view_is in
    walk-begins c.self.inside.labels.items c.self.inside.sizes.items c.self.inside.next.items c.self.invariant c.args.label c.requires.low (omega (arith, ap length view, c.requires.high)) (subst (λ (l : List Atom). IsOwnLabel l c.args.label) (sym view) c.requires.own)
    ∙ ap (λ (s : Store). first_in (class_walk s c.args.label)) c.self.view_is

pub returns-clause-walk : goal.returns-clause-walk
returns-clause-walk c =
    let store : IsStore c.args.self.now = subst IsStore c.self.view_is (store-from c.self.inside.labels.items c.self.inside.sizes.items c.self.inside.next.items c.self.invariant) in
    store.walked c.args.label c.requires.low c.requires.high c.requires.own
