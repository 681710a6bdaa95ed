-- The clauses of the store, from what its methods do to the labels.
use Rattle.std.proofs.Common.{◌≡◌, ℕ, ◌≤◌, true, List, [], map, length, refl, ap, sym, ◌∙◌, subst, arith, ⊎_elim, Option, Some, None}
use Rattle.std.specs.Prelude.{◌↔◌, IsSomeAnd, option_map}
use Rattle.std.proofs.lemmas.Bool.{eqb-true}
use Rattle.std.proofs.lemmas.List.{length-map}
use Rattle.order_ints.specs.declared.atom.Atom.{Atom}
use Rattle.order_ints.specs.declared.atom.Atom.TheVariants.{True, False, Of}
use Rattle.order_ints.specs.Truth.{atom_truth, not_atom}
use Rattle.order_ints.specs.View.{label_of, resolve}
use Rattle.equation_store.specs.declared.relabel.Change.{Change}
use Rattle.order_ints.specs.Label.{IsOwnLabel, IsLabel, IsLabelled}
use Rattle.equation_store.specs.Class.{is_of, IsWalk}
use Rattle.equation_store.specs.Store.{Store, class_walk, IsStore}
use Rattle.equation_store.specs.Merge.{replaced, change_of, changed_by, merged, IsRelabelled}
use Rattle.equation_store.specs.Laws.{IsAtomOf, AlwaysEqual, NeverEqual, AddsEquation, Doubles}
use Rattle.equation_store.proofs.Negation.{not-other, truth-not_atom}
use Rattle.equation_store.proofs.Apart.{resolves_exactly}
use Rattle.equation_store.proofs.Resolve.{resolves_truly}
use Rattle.equation_store.proofs.Replaced.{IsLabelled-relabelled, label_of-relabelled}
use Rattle.equation_store.proofs.Merge.{ChangeOf, change_of-atoms, change-joins, change-adds, merge_doubles}

-- no variables
pub IsLabelled-none : (view : List Atom) → view ≡ [] → IsLabelled view
IsLabelled-none view e v low high = absurd (let h : length view ≡ 0 = ap length e in omega arith)

-- resolving tells what every valuation makes equal
pub exact_from : (view : List Atom) (a r : Atom) → IsLabelled view → IsAtomOf view a → r ≡ resolve view a → (b : Atom) → IsAtomOf view b → (r ≡ resolve view b) ↔ AlwaysEqual view a b
exact_from view a r labelled in_a e b in_b =
    let exact : (resolve view a ≡ resolve view b) ↔ AlwaysEqual view a b = resolves_exactly view a b labelled in_a in_b in
    (λ h. exact.0 (sym e ∙ h), λ h. e ∙ exact.1 h)

-- the variable of a label is one of the view
pub of_label : (view : List Atom) (x : ℕ) (a : Atom) → IsLabel view a → is_of x a ≡ true → (1 ≤ x) × (x ≤ length view)
of_label view x True h e = cc
of_label view x False h e = cc
of_label view x (Of l) h e = let same : l.var ≡ x = eqb-true l.var x e in (omega (arith, h.0), omega (arith, h.1))

pub own_label : (view : List Atom) (x : ℕ) (a : Atom) → IsLabel view a → is_of x a ≡ true → IsOwnLabel view x
own_label view x True h e = cc
own_label view x False h e = cc
own_label view x (Of l) h e = subst (IsOwnLabel view) (eqb-true l.var x e) h.2

-- the class of any member has its walk
pub IsWalk-of_member : (store : Store) → IsStore store → (v x : ℕ) → 1 ≤ v → v ≤ length store.view → is_of x (label_of store.view v) ≡ true → IsWalk store.view x (class_walk store x)
IsWalk-of_member store h v x low high of_x =
    let label : IsLabel store.view (label_of store.view v) = h.labelled v low high in
    let range : (1 ≤ x) × (x ≤ length store.view) = of_label store.view x (label_of store.view v) label of_x in
    h.walked x range.0 range.1 (own_label store.view x (label_of store.view v) label of_x)

-- what a merge of two atoms does where their labels are neither equal nor opposite
pub record IsChangedBy (change : Option Change) (old new : List Atom) (a b : Atom) : Type 0 where
  pub relabels : IsSomeAnd (option_map (λ c. c.loser) change) (IsRelabelled old new)
  pub equal : resolve new a ≡ resolve new b
  pub equation : AddsEquation old new a b

-- what any merge of two atoms does
pub record IsMerge (old new : List Atom) (a b : Atom) : Type 0 where
  pub labelled : IsLabelled new
  pub size : length new ≡ length old
  pub doubles : Doubles old new
  pub changes : (resolve old a ≡ resolve old b → ⊥) → (resolve old a ≡ not_atom (resolve old b) → ⊥) → IsChangedBy (change_of old (resolve old a) (resolve old b)) old new a b
  pub opposite : resolve old a ≡ not_atom (resolve old b) → NeverEqual old a b

pub is_merge : (view : List Atom) (a b : Atom) → IsLabelled view → IsAtomOf view a → IsAtomOf view b → IsMerge view (merged view a b) a b
is_merge view a b labelled in_a in_b = record {
  labelled = kept (change_of view (resolve view a) (resolve view b)) of_change;
  size = same_size (change_of view (resolve view a) (resolve view b));
  doubles = merge_doubles view a b labelled in_a in_b;
  changes = changed (change_of view (resolve view a) (resolve view b)) of_change;
  opposite = never;
}
  where
    of_change : ChangeOf view a b (change_of view (resolve view a) (resolve view b))
    of_change = change_of-atoms view a b labelled in_a in_b

    kept : (o : Option Change) → ChangeOf view a b o → IsLabelled (changed_by o view)
    kept None h = labelled
    kept (Some c) h = IsLabelled-relabelled view c.loser c.label h.replacement labelled

    same_size : (o : Option Change) → length (changed_by o view) ≡ length view
    same_size None = refl
    same_size (Some c) = length-map view (replaced c.loser c.label)

    changed : (o : Option Change) → ChangeOf view a b o → (resolve view a ≡ resolve view b → ⊥) → (resolve view a ≡ not_atom (resolve view b) → ⊥) → IsChangedBy o view (changed_by o view) a b
    changed None h ne not_opposite = absurd (⊎_elim ne not_opposite h)
    changed (Some c) h ne not_opposite = record {
      relabels = ap (λ (n : Atom). map (replaced c.loser n) view) (sym (label_of-relabelled view c.loser c.label h.replacement));
      equal = change-joins view a b c in_a in_b h;
      equation = change-adds view a b c in_a in_b h;
    }

    never : resolve view a ≡ not_atom (resolve view b) → NeverEqual view a b
    never e σ meets same =
        not-other (atom_truth σ (resolve view b))
        (resolves_truly view b σ in_b meets ∙ sym same ∙ sym (resolves_truly view a σ in_a meets) ∙ ap (atom_truth σ) e ∙ truth-not_atom σ (resolve view b))

-- the same where the old view is only equal to the labels
pub is_merge_from : (labels old new : List Atom) (a b : Atom) → labels ≡ old → IsLabelled labels → new ≡ merged labels a b → IsAtomOf old a → IsAtomOf old b → IsMerge old new a b
is_merge_from labels old new a b e labelled is_merged in_a in_b =
    subst (λ (view : List Atom). IsMerge old view a b) (ap (λ (view : List Atom). merged view a b) (sym e) ∙ sym is_merged)
    (is_merge old a b (subst IsLabelled e labelled) in_a in_b)
