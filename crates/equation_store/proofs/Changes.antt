-- What a merge changes of labels and classes, and what it keeps.
use Rattle.std.proofs.Common.{◌≡◌, ℕ, ◌≤◌, Bool, true, false, List, [], ◌∷◌, length, refl, ap, sym, ◌∙◌, subst, arith, ⊎_elim, Option, Some, None}
use Rattle.std.specs.Prelude.{if◌then◌else◌, ◌≢◌, ◌↔◌, ◌==◌, IfSome, IsSomeAnd, option_map}
use Rattle.std.proofs.lemmas.Bool.{true≢false, cases_Bool, eqb-true, eq-eqb, ne_eqb}
use Rattle.std.proofs.lemmas.List.{length-map}
use Rattle.order_ints.specs.declared.atom.Atom.{Atom}
use Rattle.order_ints.specs.declared.atom.Atom.TheVariants.{True, False, Of}
use Rattle.order_ints.specs.View.{label_of, resolve}
use Rattle.order_ints.specs.Label.{IsOwnLabel, IsLabel, IsLabelled, IsLater}
use Rattle.equation_store.specs.declared.relabel.Change.{Change}
use Rattle.equation_store.specs.Class.{is_of, IsMember, class_size}
use Rattle.equation_store.specs.Merge.{replaced, change_of, changed_by}
use Rattle.equation_store.specs.Laws.{IsAtomOf, size_at, NeverShrinks, MergeNeverShrinks, MergeLabelled, MergeLabels, MergeChanges, MergeIsLater}
use Rattle.equation_store.proofs.Resolve.{resolve-label}
use Rattle.equation_store.proofs.Replaced.{relabelled, replaced-own, replaced-other, label_of-map, resolve-relabelled, IsLabel-relabelled, IsAtomOf-label}
use Rattle.equation_store.proofs.Change.{IsChange, is_of-signed}
use Rattle.equation_store.proofs.Merge.{ChangeOf, change_of-atoms}
use Rattle.equation_store.proofs.Facts.{is_merge}
use Rattle.equation_store.proofs.Previous.{was-own}

-- a literal of the variable itself becomes one that is not of it
pub is_of-replaced : (x : ℕ) (new a : Atom) → is_of x new ≡ false → is_of x a ≡ true → is_of x (replaced x new a) ≡ false
is_of-replaced x new True other e = cc
is_of-replaced x new False other e = cc
is_of-replaced x new (Of l) other e =
    ap (is_of x) (replaced-own x new l (eqb-true l.var x e)) ∙ is_of-signed x l.positive new ∙ other

pub replaced-changes : (x : ℕ) (new a : Atom) → is_of x new ≡ false → is_of x a ≡ true → replaced x new a ≡ a → ⊥
replaced-changes x new a other e same = true≢false (sym e ∙ sym (ap (is_of x) same) ∙ is_of-replaced x new a other e)

-- a class of another variable keeps its members
class_size-kept : (view : List Atom) (x : ℕ) (new : Atom) (y : ℕ) → (y ≡ x → ⊥) → class_size view y ≤ class_size (relabelled view x new) y
class_size-kept [] x new y ne = omega arith
class_size-kept (a ∷ view) x new y ne = omega (arith, class_size-kept view x new y ne, one a)
  where
    one : (b : Atom) → (if is_of y b then 1 else 0) ≤ (if is_of y (replaced x new b) then 1 else 0)
    one True = omega arith
    one False = omega arith
    one (Of l) = ⊎_elim own other (cases_Bool (l.var == y))
      where
        own : (l.var == y) ≡ true → (if l.var == y then 1 else 0) ≤ (if is_of y (replaced x new (Of l)) then 1 else 0)
        own e =
            let apart : (l.var == x) ≡ false = ne_eqb l.var x (λ f. ne (sym (eqb-true l.var y e) ∙ f)) in
            subst (λ (b : Atom). (if l.var == y then 1 else 0) ≤ (if is_of y b then 1 else 0)) (sym (replaced-other x new (Of l) apart)) (omega arith)

        other : (l.var == y) ≡ false → (if l.var == y then 1 else 0) ≤ (if is_of y (replaced x new (Of l)) then 1 else 0)
        other e = subst (λ (t : Bool). (if t then 1 else 0) ≤ (if is_of y (replaced x new (Of l)) then 1 else 0)) (sym e) (omega arith)

size-kept : (view : List Atom) (x : ℕ) (new a : Atom) → is_of x new ≡ false → replaced x new a ≡ a → size_at view a ≤ size_at (relabelled view x new) a
size-kept view x new True other same = omega arith
size-kept view x new False other same = omega arith
size-kept view x new (Of l) other same = class_size-kept view x new l.var (λ e. replaced-changes x new (Of l) other (eq-eqb l.var x e) same)

module _ (view : List Atom) (a b : Atom) (labelled : IsLabelled view) (in_a : IsAtomOf view a) (in_b : IsAtomOf view b) where
  -- the label of a variable after a change
  label_of-changed : (c : Change) (v : ℕ) → 1 ≤ v → v ≤ length view → label_of (relabelled view c.loser c.label) v ≡ replaced c.loser c.label (label_of view v)
  label_of-changed c v low high = label_of-map (replaced c.loser c.label) view v low high

  never_shrinks-by : (o : Option Change) → ChangeOf view a b o → NeverShrinks view (changed_by o view)
  never_shrinks-by None h v low high same = omega arith
  never_shrinks-by (Some c) h v low high same =
      subst (λ (n : Atom). size_at view (label_of view v) ≤ size_at (relabelled view c.loser c.label) n) (sym same)
      (size-kept view c.loser c.label (label_of view v) h.replacement.other (sym (label_of-changed c v low high) ∙ same))

  pub changes-by : (o : Option Change) → ChangeOf view a b o → (v : ℕ) → 1 ≤ v → v ≤ length view → (label_of (changed_by o view) v ≢ label_of view v) ↔ IsSomeAnd (option_map (λ c. c.loser) o) (λ x. IsMember view x v)
  changes-by None h v low high = (λ ne. ne refl, λ none. absurd none)
  changes-by (Some c) h v low high = (member, changed)
    where
      member : (label_of (relabelled view c.loser c.label) v ≢ label_of view v) → IsMember view c.loser v
      member ne = (low, high, ⊎_elim (λ (e : is_of c.loser (label_of view v) ≡ true). e) (λ (e : is_of c.loser (label_of view v) ≡ false). absurd (ne (label_of-changed c v low high ∙ replaced-other c.loser c.label (label_of view v) e))) (cases_Bool (is_of c.loser (label_of view v))))

      changed : IsMember view c.loser v → label_of (relabelled view c.loser c.label) v ≢ label_of view v
      changed m same = replaced-changes c.loser c.label (label_of view v) h.replacement.other m.2 (sym (label_of-changed c v low high) ∙ same)

  later-by : (o : Option Change) → ChangeOf view a b o → IsLater view (changed_by o view)
  later-by None h v low high = resolve-label view (label_of view v) (labelled v low high)
  later-by (Some c) h v low high =
      let label : IsLabel view (label_of view v) = labelled v low high in
      resolve-relabelled view c.loser c.label (label_of view v) (IsAtomOf-label view (label_of view v) label)
      ∙ ap (replaced c.loser c.label) (resolve-label view (label_of view v) label)
      ∙ sym (label_of-changed c v low high)

  -- a label after a change was one, of another variable than the loser
  module _ (c : Change) (h : IsChange view (resolve view a) (resolve view b) c) where
    was_own : (v : ℕ) → 1 ≤ v → v ≤ length view → IsOwnLabel (relabelled view c.loser c.label) v → IsOwnLabel view v × ((v == c.loser) ≡ false)
    was_own = was-own view c.loser c.label h.replacement

    labels-changed : (d : Atom) → IsLabel (relabelled view c.loser c.label) d ↔ (IsLabel view d × (is_of c.loser d ≡ false))
    labels-changed True = (λ _. (tt, refl), λ _. tt)
    labels-changed False = (λ _. (tt, refl), λ _. tt)
    labels-changed (Of l) = (was, λ k. IsLabel-relabelled view c.loser c.label (Of l) k.0 k.1)
      where
        was : IsLabel (relabelled view c.loser c.label) (Of l) → IsLabel view (Of l) × ((l.var == c.loser) ≡ false)
        was k =
            let high : l.var ≤ length view = omega (arith, k.1, length-relabelled) in
            let old : IsOwnLabel view l.var × ((l.var == c.loser) ≡ false) = was_own l.var k.0 high k.2 in
            ((k.0, high, old.0), old.1)
          where
            length-relabelled : length (relabelled view c.loser c.label) ≡ length view
            length-relabelled = length-map view (replaced c.loser c.label)

  labels-by : (o : Option Change) → ChangeOf view a b o → (d : Atom) → IsLabel (changed_by o view) d ↔ (IsLabel view d × IfSome (option_map (λ c. c.loser) o) (λ x. is_of x d ≡ false))
  labels-by None h d = (λ k. (k, tt), λ k. k.0)
  labels-by (Some c) h d = labels-changed c h d

pub merge_never_shrinks : MergeNeverShrinks
merge_never_shrinks view a b labelled in_a in_b =
    never_shrinks-by view a b labelled in_a in_b (change_of view (resolve view a) (resolve view b)) (change_of-atoms view a b labelled in_a in_b)

pub merge_labelled : MergeLabelled
merge_labelled view a b labelled in_a in_b = let m = is_merge view a b labelled in_a in_b in (m.size, m.labelled)

pub merge_labels : MergeLabels
merge_labels view a b c labelled in_a in_b =
    labels-by view a b labelled in_a in_b (change_of view (resolve view a) (resolve view b)) (change_of-atoms view a b labelled in_a in_b) c

pub merge_changes : MergeChanges
merge_changes view a b v labelled in_a in_b low high =
    changes-by view a b labelled in_a in_b (change_of view (resolve view a) (resolve view b)) (change_of-atoms view a b labelled in_a in_b) v low high

pub merge_is_later : MergeIsLater
merge_is_later view a b labelled in_a in_b =
    later-by view a b labelled in_a in_b (change_of view (resolve view a) (resolve view b)) (change_of-atoms view a b labelled in_a in_b)
