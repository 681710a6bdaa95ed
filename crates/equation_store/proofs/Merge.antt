-- A merge of two atoms: its equation, and what it does to labels and sizes.
use Rattle.std.proofs.Common.{◌≡◌, ℕ, ◌*◌, ◌≤◌, Bool, true, false, List, refl, sym, ◌∙◌, subst, arith, ⊎_elim, inl, inr, Option, Some, None}
use Rattle.std.specs.Prelude.{◌==◌, ◌⊎◌, MatchOption}
use Rattle.std.proofs.lemmas.Bool.{cases_Bool, eqb-true, eqb-false}
use Rattle.order_ints.specs.declared.atom.Atom.{Atom}
use Rattle.order_ints.specs.declared.atom.Atom.TheVariants.{True, False, Of}
use Rattle.order_ints.specs.Truth.{atom_truth, not_atom}
use Rattle.order_ints.specs.View.{label_of, resolve, MeetsView}
use Rattle.equation_store.specs.declared.relabel.Change.{Change}
use Rattle.order_ints.specs.Label.{IsLabelled}
use Rattle.equation_store.specs.Class.{is_of, class_size}
use Rattle.equation_store.specs.Merge.{signed, replaced, change_of, changed_by}
use Rattle.equation_store.specs.Laws.{IsAtomOf, AddsEquation, IsConstant, size_at, Doubles, MergeResolves, MergeKeeps, MergeDoubles}
use Rattle.equation_store.proofs.Resolve.{IsLabel-resolve, resolves_truly, resolves_once}
use Rattle.equation_store.proofs.Replaced.{relabelled, replaced-own, replaced-other, label_of-map, meets-relabelled, relabelled-meets, resolve-relabelled, resolve-relabelled_once, class_size-relabelled}
use Rattle.equation_store.proofs.Change.{IsChange, IsConstant-signed, size_at-signed, change_of-is}

-- what is known of the change of two atoms
abbrev pub ChangeOf : List Atom → Atom → Atom → Option Change → Type 0
ChangeOf view a b change = MatchOption change ((resolve view a ≡ resolve view b) ⊎ (resolve view a ≡ not_atom (resolve view b))) (IsChange view (resolve view a) (resolve view b))

pub change_of-atoms : (view : List Atom) (a b : Atom) → IsLabelled view → IsAtomOf view a → IsAtomOf view b → ChangeOf view a b (change_of view (resolve view a) (resolve view b))
change_of-atoms view a b labelled in_a in_b = change_of-is view (resolve view a) (resolve view b) (IsLabel-resolve view a labelled in_a) (IsLabel-resolve view b labelled in_b)

pub merge_resolves : MergeResolves
merge_resolves view a b c labelled in_a in_b in_c = by_change (change_of view (resolve view a) (resolve view b))
  where
    by_change : (o : Option Change) → resolve (changed_by o view) c ≡ resolve (changed_by o view) (resolve view c)
    by_change None = sym (resolves_once view c labelled)
    by_change (Some change) = resolve-relabelled_once view change.loser change.label c labelled in_c

pub merge_keeps : MergeKeeps
merge_keeps view a b σ labelled in_a in_b = by_change (change_of view (resolve view a) (resolve view b)) (change_of-atoms view a b labelled in_a in_b)
  where
    by_change : (o : Option Change) → ChangeOf view a b o → MeetsView σ (changed_by o view) → MeetsView σ view
    by_change None h meets = meets
    by_change (Some c) h meets = (meets-relabelled view c.loser c.label σ h.replacement meets).0

-- after a change the two atoms resolve to one label
pub change-joins : (view : List Atom) (a b : Atom) (c : Change) → IsAtomOf view a → IsAtomOf view b → IsChange view (resolve view a) (resolve view b) c → resolve (relabelled view c.loser c.label) a ≡ resolve (relabelled view c.loser c.label) b
change-joins view a b c in_a in_b h =
    resolve-relabelled view c.loser c.label a in_a ∙ h.joins ∙ sym (resolve-relabelled view c.loser c.label b in_b)

-- a change adds the equation
pub change-adds : (view : List Atom) (a b : Atom) (c : Change) → IsAtomOf view a → IsAtomOf view b → IsChange view (resolve view a) (resolve view b) c → AddsEquation view (relabelled view c.loser c.label) a b
change-adds view a b c in_a in_b h σ = (down, up)
  where
    down : MeetsView σ (relabelled view c.loser c.label) → MeetsView σ view × (atom_truth σ a ≡ atom_truth σ b)
    down meets =
        let old : MeetsView σ view × (σ c.loser ≡ atom_truth σ c.label) = meets-relabelled view c.loser c.label σ h.replacement meets in
        (old.0, sym (resolves_truly view a σ in_a old.0) ∙ h.truth_from σ old.1 ∙ resolves_truly view b σ in_b old.0)

    up : MeetsView σ view × (atom_truth σ a ≡ atom_truth σ b) → MeetsView σ (relabelled view c.loser c.label)
    up old = relabelled-meets view c.loser c.label σ old.0 (h.truth_to σ (resolves_truly view a σ in_a old.0 ∙ old.1 ∙ sym (resolves_truly view b σ in_b old.0)))

-- the class that takes another one in is twice as large as that, or the label is a constant
grown : (view : List Atom) (x : ℕ) (new : Atom) (p : Bool) → is_of x new ≡ false → IsConstant new ⊎ (class_size view x ≤ size_at view new) → IsConstant (signed p new) ⊎ (2 * class_size view x ≤ size_at (relabelled view x new) (signed p new))
grown view x True p other size = inl (IsConstant-signed p True tt)
grown view x False p other size = inl (IsConstant-signed p False tt)
grown view x (Of m) p other size = ⊎_elim (λ h. absurd h) (λ h. inr (twice h)) size
  where
    twice : class_size view x ≤ class_size view m.var → 2 * class_size view x ≤ size_at (relabelled view x (Of m)) (signed p (Of m))
    twice h = omega (arith, size_at-signed (relabelled view x (Of m)) p (Of m), class_size-relabelled view x m (eqb-false m.var x other))

-- a replacement doubles the class of each variable that gets a new label
doubles-at : (view : List Atom) (x : ℕ) (new a : Atom) → is_of x new ≡ false → IsConstant new ⊎ (class_size view x ≤ size_at view new) → (replaced x new a ≡ a → ⊥) → IsConstant (replaced x new a) ⊎ (2 * size_at view a ≤ size_at (relabelled view x new) (replaced x new a))
doubles-at view x new True other size ne = inl tt
doubles-at view x new False other size ne = inl tt
doubles-at view x new (Of l) other size ne = ⊎_elim own stays (cases_Bool (l.var == x))
  where
    own : (l.var == x) ≡ true → IsConstant (replaced x new (Of l)) ⊎ (2 * class_size view l.var ≤ size_at (relabelled view x new) (replaced x new (Of l)))
    own t =
        let e : l.var ≡ x = eqb-true l.var x t in
        subst (λ (r : Atom). IsConstant r ⊎ (2 * class_size view l.var ≤ size_at (relabelled view x new) r)) (sym (replaced-own x new l e))
        (subst (λ (y : ℕ). IsConstant (signed l.positive new) ⊎ (2 * class_size view y ≤ size_at (relabelled view x new) (signed l.positive new))) (sym e) (grown view x new l.positive other size))

    stays : (l.var == x) ≡ false → IsConstant (replaced x new (Of l)) ⊎ (2 * class_size view l.var ≤ size_at (relabelled view x new) (replaced x new (Of l)))
    stays t = absurd (ne (replaced-other x new (Of l) t))

pub change-doubles : (view : List Atom) (a b : Atom) (c : Change) → IsChange view a b c → Doubles view (relabelled view c.loser c.label)
change-doubles view a b c h v low high changed =
    let now : label_of (relabelled view c.loser c.label) v ≡ replaced c.loser c.label (label_of view v) = label_of-map (replaced c.loser c.label) view v low high in
    subst (λ (n : Atom). IsConstant n ⊎ (2 * size_at view (label_of view v) ≤ size_at (relabelled view c.loser c.label) n)) (sym now)
    (doubles-at view c.loser c.label (label_of view v) h.replacement.other h.smaller (λ e. changed (now ∙ e)))

pub merge_doubles : MergeDoubles
merge_doubles view a b labelled in_a in_b = by_change (change_of view (resolve view a) (resolve view b)) (change_of-atoms view a b labelled in_a in_b)
  where
    by_change : (o : Option Change) → ChangeOf view a b o → Doubles view (changed_by o view)
    by_change None h = λ v low high changed. absurd (changed refl)
    by_change (Some c) h = change-doubles view (resolve view a) (resolve view b) c h
