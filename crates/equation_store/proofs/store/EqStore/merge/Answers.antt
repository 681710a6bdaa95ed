use Rattle.std.proofs.Common.{◌≡◌, ◌∙◌, List, ℕ, ap, sym, subst, arith}
use Rattle.std.specs.Prelude.{◌↔◌}
use Rattle.std.specs.Vec.{with_items}
use Rattle.std.proofs.lemmas.List.{with_items_is}
use Rattle.order_ints.specs.declared.atom.Atom.{Atom}
use Rattle.order_ints.specs.Truth.{not_atom}
use Rattle.order_ints.specs.View.{resolve}
use Rattle.equation_store.specs.declared.relabel.Merged.TheVariants.{Changed, Already, Clash}
use Rattle.equation_store.specs.Store.{Store, IsStore, IsKept, store_of}
use Rattle.equation_store.specs.Merge.{change_of, merged, IsRelabelled}
use Rattle.equation_store.proofs.Facts.{IsMerge, IsChangedBy, is_merge_from}
use Rattle.equation_store.proofs.Stored.{store-from, lists-changed}
use Rattle.equation_store.proofs.store.EqStore.merge.Goals as goal
use Rattle.equation_store.proofs.store.EqStore.merge.Goals.{After-merge_labels}

same_view : (c : After-merge_labels) → c.self.inside.labels.items ≡ c.args.self.now.view
same_view c = ap (λ (s : Store). s.view) c.self.view_is

-- the labels as they are written back
labels_are : (c : After-merge_labels) → (with_items c.self.inside.labels c.merge_labels.new.labels).items ≡ c.merge_labels.new.labels
labels_are c = with_items_is c.self.inside.labels c.merge_labels.new.labels (omega (arith, c.merge_labels.auto.labels, c.as_mut_slice-labels.ensures.len))

sizes_are : (c : After-merge_labels) → (with_items c.self.inside.sizes c.merge_labels.new.sizes).items ≡ c.merge_labels.new.sizes
sizes_are c = with_items_is c.self.inside.sizes c.merge_labels.new.sizes (omega (arith, c.merge_labels.auto.sizes, c.as_mut_slice-sizes.ensures.len))

merged-view : (c : After-merge_labels) → (with_items c.self.inside.labels c.merge_labels.new.labels).items ≡ merged c.self.inside.labels.items c.args.a c.args.b
merged-view c = labels_are c ∙ c.merge_labels.ensures.labels ∙ ap (λ (labels : List Atom). merged labels c.args.a c.args.b) c.as_mut_slice-labels.ensures.value

facts : (c : After-merge_labels) → IsMerge c.args.self.now.view (with_items c.self.inside.labels c.merge_labels.new.labels).items c.args.a c.args.b
facts c =
    is_merge_from c.self.inside.labels.items c.args.self.now.view _ c.args.a c.args.b (same_view c) c.self.invariant.sizes_are.labelled (merged-view c) c.requires.first c.requires.second

next_is : (c : After-merge_labels) → (with_items c.self.inside.next c.merge_labels.new.next).items ≡ c.merge_labels.new.next
next_is c = with_items_is c.self.inside.next c.merge_labels.new.next (omega (arith, c.merge_labels.auto.next, c.as_mut_slice.ensures.len))

kept : (c : After-merge_labels) → IsKept (with_items c.self.inside.labels c.merge_labels.new.labels).items (with_items c.self.inside.sizes c.merge_labels.new.sizes).items (with_items c.self.inside.next c.merge_labels.new.next).items
kept c =
    subst (λ (l : List Atom). IsKept l (with_items c.self.inside.sizes c.merge_labels.new.sizes).items (with_items c.self.inside.next c.merge_labels.new.next).items) (sym (labels_are c))
    (subst (λ (l : List ℕ). IsKept c.merge_labels.new.labels l (with_items c.self.inside.next c.merge_labels.new.next).items) (sym (sizes_are c))
    (subst (λ (l : List ℕ). IsKept c.merge_labels.new.labels c.merge_labels.new.sizes l) (sym (next_is c)) c.merge_labels.ensures.kept))

changed : (c : After-merge_labels) → c.merge_labels.result ≡ Changed → IsChangedBy (change_of c.args.self.now.view (resolve c.args.self.now.view c.args.a) (resolve c.args.self.now.view c.args.b)) c.args.self.now.view (with_items c.self.inside.labels c.merge_labels.new.labels).items c.args.a c.args.b
changed c e =
    let view : c.as_mut_slice-labels.result.now ≡ c.args.self.now.view = c.as_mut_slice-labels.ensures.value ∙ same_view c in
    let already : (c.merge_labels.result ≡ Already) ↔ (resolve c.args.self.now.view c.args.a ≡ resolve c.args.self.now.view c.args.b) =
    subst (λ (v : List Atom). (c.merge_labels.result ≡ Already) ↔ (resolve v c.args.a ≡ resolve v c.args.b)) view c.merge_labels.ensures.already in
    let clash : (c.merge_labels.result ≡ Clash) ↔ (resolve c.args.self.now.view c.args.a ≡ not_atom (resolve c.args.self.now.view c.args.b)) =
    subst (λ (v : List Atom). (c.merge_labels.result ≡ Clash) ↔ (resolve v c.args.a ≡ not_atom (resolve v c.args.b))) view c.merge_labels.ensures.clash in
    (facts c).changes (λ h. changed_apart (sym e ∙ already.1 h)) (λ h. changed_no_clash (sym e ∙ clash.1 h))
  where
    changed_apart : Changed ≡ Already → ⊥
    changed_apart f = cc

    changed_no_clash : Changed ≡ Clash → ⊥
    changed_no_clash f = cc

pub returns-clause-relabels : goal.returns-clause-relabels
returns-clause-relabels c e = (changed (goal.at.returns-clause-relabels c).After-merge_labels e).relabels

pub returns-clause-walked : goal.returns-clause-walked
returns-clause-walked c e =
    let h = (goal.at.returns-clause-walked c).After-merge_labels in
    let old : IsStore h.args.self.now = subst IsStore h.self.view_is (store-from h.self.inside.labels.items h.self.inside.sizes.items h.self.inside.next.items h.self.invariant) in
    let new : Store = store_of (with_items h.self.inside.labels h.merge_labels.new.labels).items (with_items h.self.inside.sizes h.merge_labels.new.sizes).items (with_items h.self.inside.next h.merge_labels.new.next).items in
    lists-changed h.args.self.now new h.args.a h.args.b old h.requires.first h.requires.second
    (merged-view h ∙ ap (λ (labels : List Atom). merged labels h.args.a h.args.b) (same_view h))
    (IsRelabelled h.args.self.now.view (with_items h.self.inside.labels h.merge_labels.new.labels).items) (changed h e).relabels

pub returns-clause-equal : goal.returns-clause-equal
returns-clause-equal c e = (changed (goal.at.returns-clause-equal c).After-merge_labels e).equal

pub returns-clause-equation : goal.returns-clause-equation
returns-clause-equation c e = (changed (goal.at.returns-clause-equation c).After-merge_labels e).equation

pub returns-clause-doubles : goal.returns-clause-doubles
returns-clause-doubles c e = (facts (goal.at.returns-clause-doubles c).After-merge_labels).doubles

pub returns-clause-store : goal.returns-clause-store
returns-clause-store c =
    let h = (goal.at.returns-clause-store c).After-merge_labels in
    store-from (with_items h.self.inside.labels h.merge_labels.new.labels).items (with_items h.self.inside.sizes h.merge_labels.new.sizes).items (with_items h.self.inside.next h.merge_labels.new.next).items (kept h)
