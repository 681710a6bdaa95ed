-- What contracts see of a store, from what it keeps.
use Rattle.std.proofs.Common.{◌≡◌, ℕ, ◌-◌, ◌≤◌, true, List, [], length, refl, ap, sym, ◌∙◌, subst, arith, ⊎_elim, Option, Some, None}
use Rattle.std.specs.Prelude.{◌⊎◌, ◌↔◌, ◌≢◌, IfSome, IsNone, IsSomeAnd, option_map, ◌==◌, if◌then◌else◌}
use Rattle.std.proofs.lemmas.Bool.{true≢false}
use Rattle.std.proofs.lemmas.List.FromFn.{get_or-map-range_with_len}
use Rattle.order_ints.specs.declared.atom.Atom.{Atom}
use Rattle.order_ints.specs.Truth.{not_atom}
use Rattle.order_ints.specs.View.{label_of, resolve}
use Rattle.order_ints.specs.Label.{IsLabel, IsOwnLabel, IsLabelled}
use Rattle.equation_store.specs.declared.relabel.Change.{Change}
use Rattle.equation_store.specs.Class.{is_of, IsMember, IsWalk, first_in, after_in}
use Rattle.equation_store.specs.Ring.{behind, ring_of}
use Rattle.equation_store.specs.Merge.{change_of, changed_by, loser_of, IsReplacement}
use Rattle.equation_store.specs.Laws.{IsAtomOf}
use Rattle.equation_store.specs.Store.{Store, IsStore, IsKept, ListsChanged, store_of, class_walk}
use Rattle.equation_store.proofs.Merge.{ChangeOf, change_of-atoms}
use Rattle.equation_store.proofs.Changes.{changes-by}
use Rattle.equation_store.proofs.Facts.{of_label}
use Rattle.equation_store.proofs.Walk.{member_from_times}
use Rattle.equation_store.proofs.Rings.{ring-begins, ring-after}

-- the walk of a class is its ring
pub class_walk-ring : (labels : List Atom) (sizes next : List ℕ) (x : ℕ) → 1 ≤ x → x ≤ length labels → class_walk (store_of labels sizes next) x ≡ ring_of sizes next x
class_walk-ring labels sizes next x low high = get_or-map-range_with_len (ring_of sizes next) 1 (length labels) (x - 1) x [] (omega arith) (omega arith)

pub store-from : (labels : List Atom) (sizes next : List ℕ) → IsKept labels sizes next → IsStore (store_of labels sizes next)
store-from labels sizes next k = record {
  small = k.small;
  labelled = k.sizes_are.labelled;
  walked = λ x low high own. subst (IsWalk labels x) (sym (class_walk-ring labels sizes next x low high)) (k.walked x low high own);
}

-- the walk of a class begins at the label's variable
pub walk-begins : (labels : List Atom) (sizes next : List ℕ) → IsKept labels sizes next → (x : ℕ) → 1 ≤ x → x ≤ length labels → IsOwnLabel labels x → Some x ≡ first_in (class_walk (store_of labels sizes next) x)
walk-begins labels sizes next k x low high own = sym (ap first_in (class_walk-ring labels sizes next x low high) ∙ ring-begins labels sizes next k x low high own)

-- and goes along the links until it comes back
pub walk-goes : (labels : List Atom) (sizes next : List ℕ) → IsKept labels sizes next → (x v : ℕ) → 1 ≤ v → v ≤ length labels → is_of x (label_of labels v) ≡ true → (if behind next v == x then None else Some (behind next v)) ≡ after_in v (class_walk (store_of labels sizes next) x)
walk-goes labels sizes next k x v low high of_x =
    let label : IsLabel labels (label_of labels v) = k.sizes_are.labelled v low high in
    let range : (1 ≤ x) × (x ≤ length labels) = of_label labels x (label_of labels v) label of_x in
    sym (ap (after_in v) (class_walk-ring labels sizes next x range.0 range.1) ∙ ring-after labels sizes next k x v low high of_x)

-- the same of lists that are equal to those that are kept
pub store-same : (labels : List Atom) (sizes next : List ℕ) (labels_after : List Atom) (sizes_after next_after : List ℕ) → IsKept labels sizes next → labels_after ≡ labels → sizes_after ≡ sizes → next_after ≡ next → IsStore (store_of labels_after sizes_after next_after)
store-same labels sizes next labels_after sizes_after next_after k e f g =
    subst (λ (l : List Atom). IsStore (store_of l sizes_after next_after)) (sym e)
    (subst (λ (l : List ℕ). IsStore (store_of labels l next_after)) (sym f)
    (subst (λ (l : List ℕ). IsStore (store_of labels sizes l)) (sym g) (store-from labels sizes next k)))

-- a change of two atoms replaces one label
pub replaces-from : (view : List Atom) (a b : Atom) (o : Option Change) → ChangeOf view a b o → IfSome o (λ c. IsReplacement view c.loser c.label)
replaces-from view a b None h = tt
replaces-from view a b (Some c) h = h.replacement

-- no class loses exactly where two atoms resolve to equal or opposite ones
pub no-loser : (view : List Atom) (a b : Atom) → IsLabelled view → IsAtomOf view a → IsAtomOf view b → IsNone (loser_of view a b) ↔ ((resolve view a ≡ resolve view b) ⊎ (resolve view a ≡ not_atom (resolve view b)))
no-loser view a b labelled in_a in_b = by (change_of view (resolve view a) (resolve view b)) (change_of-atoms view a b labelled in_a in_b)
  where
    by : (o : Option Change) → ChangeOf view a b o → IsNone (option_map (λ c. c.loser) o) ↔ ((resolve view a ≡ resolve view b) ⊎ (resolve view a ≡ not_atom (resolve view b)))
    by None h = (λ _. h, λ _. refl)
    by (Some c) h = (λ none. absurd (true≢false none), λ e. absurd (⊎_elim h.differs h.not_opposite e))

-- the walk of the class that loses lists the variables whose label changes
pub lists-changed : (old new : Store) (a b : Atom) → IsStore old → IsAtomOf old.view a → IsAtomOf old.view b → new.view ≡ changed_by (change_of old.view (resolve old.view a) (resolve old.view b)) old.view → (P : ℕ → Type 0) → IsSomeAnd (loser_of old.view a b) P → IsSomeAnd (loser_of old.view a b) (ListsChanged old new)
lists-changed old new a b store in_a in_b = by (change_of old.view (resolve old.view a) (resolve old.view b)) (change_of-atoms old.view a b store.labelled in_a in_b)
  where
    by : (o : Option Change) → ChangeOf old.view a b o → new.view ≡ changed_by o old.view → (P : ℕ → Type 0) → IsSomeAnd (option_map (λ c. c.loser) o) P → IsSomeAnd (option_map (λ c. c.loser) o) (ListsChanged old new)
    by None h e P some = some
    by (Some c) h e P some = listed
      where
        walk : IsWalk old.view c.loser (class_walk old c.loser)
        walk = store.walked c.loser h.replacement.low h.replacement.high h.replacement.own

        moved : (v : ℕ) → 1 ≤ v → v ≤ length old.view → (label_of new.view v ≢ label_of old.view v) ↔ IsMember old.view c.loser v
        moved v low high =
            subst (λ (view : List Atom). (label_of view v ≢ label_of old.view v) ↔ IsMember old.view c.loser v) (sym e)
            (changes-by old.view a b store.labelled in_a in_b (Some c) h v low high)

        listed : ListsChanged old new c.loser
        listed v = (
          λ stands. let m : IsMember old.view c.loser v = member_from_times old.view c.loser (class_walk old c.loser) v walk stands in (m.0, m.1, (moved v m.0 m.1).1 m),
          λ r. omega (arith, walk.once v ((moved v r.0 r.1).0 r.2)),
        )
