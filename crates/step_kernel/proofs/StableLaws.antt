-- Marked cores stay stable inside, step by step.
use Rattle.std.proofs.Common.{◌≡◌, ◌≢◌, ◌⊎◌, inl, inr, ℕ, ◌+◌, ◌-◌, ◌<◌, ◌≤◌, ◌==◌, Bool, true, false, List, ◌++◌, map, length, get_or, set, eqb, refl, sym, ap, ◌∙◌, subst, arith, ⊎_elim, Option, Some, None}
use Rattle.std.specs.Prelude.{slice_index_or, IfSome, option_map, if◌then◌else◌}
use Rattle.std.proofs.lemmas.Bool.{cases_lt, cond-false, ne_eqb}
use Rattle.std.proofs.lemmas.Bool.Decides.{eqb_tells, nat_tests}
use Rattle.std.proofs.lemmas.Option.{none-some}
use Rattle.std.proofs.lemmas.List.{get_or_past, get_or-set_same, get_or-set_other, get_or_append_left, length-set, length-append, length-map}
use Rattle.order_ints.specs.declared.literal.Lit.{Lit}
use Rattle.order_ints.specs.declared.atom.Atom.{Atom}
use Rattle.order_ints.specs.declared.atom.Atom.TheVariants.{Of}
use Rattle.order_ints.specs.Label.{with_own_labels, IsOwnLabel}
use Rattle.order_ints.specs.View.{resolve}
use Rattle.order_ints.proofs.Labels.{own-stays, stays-own, label_of-past}
use Rattle.core_forms.specs.declared.form.Core.{Core}
use Rattle.core_forms.specs.Edges.{IsStableInside, InsideBelow}
use Rattle.core_forms.proofs.EdgeLaws.{inside-more, inside-further, inside-kept}
use Rattle.equation_store.specs.declared.relabel.Change.{Change}
use Rattle.equation_store.specs.Merge.{replaced, change_of, changed_by, loser_of, merged}
use Rattle.equation_store.proofs.Replaced.{label_of-map}
use Rattle.part_base.specs.declared.parts.Parts.{Parts}
use Rattle.step_kernel.specs.Kernel.{Kernel, core_at, IsKernel}
use Rattle.step_kernel.specs.StableMarks.{Rounds, IsMarked, AreStableMarks}
use Rattle.step_kernel.specs.Steps.{without, divided}
use Rattle.step_kernel.proofs.Holes.{the, below-there}

-- the core at a place has the next number as its id
pub at-next : (cores : List (Option Core)) (place : ℕ) (x : Option Core) → get_or cores place None ≡ x → core_at cores (place + 1) ≡ x
at-next cores place x is = by (place + 1 == 0) refl
  where
    by : (b : Bool) → (place + 1 == 0) ≡ b → (if b then None else slice_index_or cores (place + 1 - 1) None) ≡ x
    by true t = absurd (grind (arith, nat_tests, t))
    by false t = let e : place + 1 - 1 ≡ place = omega arith in ap (λ (i : ℕ). get_or cores i None) e ∙ is

pub stable-none : (view : List Atom) (cores : List (Option Core)) (marks : Rounds) → ((place : ℕ) → IsMarked marks place → ⊥) → AreStableMarks view cores marks
stable-none view cores marks none place m = absurd (none place m)

-- fewer places are marked, and a variable is noted that is no less
pub stable-fewer : (view : List Atom) (cores : List (Option Core)) (old new : Rounds) → ((place : ℕ) → IsMarked new place → IsMarked old place) → old.top ≤ new.top
    → AreStableMarks view cores old → AreStableMarks view cores new
stable-fewer view cores old new fewer top h place m = (at.0, λ core is. let p = at.1 core is in (p.0, inside-more (old.top + 1) (new.top + 1) core (omega (arith, top)) p.1))
  where
    at : (place < length cores) × ((core : Core) → get_or cores place None ≡ Some core → IsStableInside view core × InsideBelow (old.top + 1) core)
    at = h place (fewer place m)

-- a place is marked besides, where a core is stable inside
pub stable-more : (view : List Atom) (cores : List (Option Core)) (old new : Rounds) (more : ℕ) → ((place : ℕ) → IsMarked new place → IsMarked old place ⊎ (place ≡ more)) → old.top ≤ new.top
    → AreStableMarks view cores old → more < length cores
    → ((core : Core) → get_or cores more None ≡ Some core → IsStableInside view core × InsideBelow (new.top + 1) core) → AreStableMarks view cores new
stable-more view cores old new more marked top h inside is place m =
    ⊎_elim before (λ (e : place ≡ more). (omega (arith, e, inside), λ core at. is core (ap (λ (i : ℕ). get_or cores i None) (sym e) ∙ at))) (marked place m)
  where
    before : IsMarked old place → (place < length cores) × ((core : Core) → get_or cores place None ≡ Some core → IsStableInside view core × InsideBelow (new.top + 1) core)
    before k = let at = h place k in (at.0, λ core there. let p = at.1 core there in (p.0, inside-more (old.top + 1) (new.top + 1) core (omega (arith, top)) p.1))

left-there : (cores : List (Option Core)) (i place : ℕ) (core : Core) → get_or (set cores i None) place None ≡ Some core → get_or cores place None ≡ Some core
left-there cores i place core is =
    ⊎_elim (λ (here : (eqb place i ≡ true) × (place ≡ i)). absurd (none-some core (sym (gone (cases_lt i (length cores))) ∙ ap (λ (j : ℕ). get_or (set cores i None) j None) (sym here.1) ∙ is)))
    (λ (there : (eqb place i ≡ false) × (place ≢ i)). sym (get_or-set_other cores i place None None there.1) ∙ is) (eqb_tells place i)
  where
    gone : (i < length cores) ⊎ (length cores ≤ i) → get_or (set cores i None) i None ≡ None
    gone h =
        ⊎_elim (λ (low : i < length cores). get_or-set_same cores i None None low)
        (λ (high : length cores ≤ i). get_or_past (set cores i None) i None (omega (arith, high, length-set cores i None))) h

pub stable-without : (view : List Atom) (cores : List (Option Core)) (marks : Rounds) (id : ℕ) → AreStableMarks view cores marks → AreStableMarks view (without cores id) marks
stable-without view cores marks id h place m =
    let at = h place m in (omega (arith, at.0, length-set cores (id - 1) None), λ core is. at.1 core (left-there cores (id - 1) place core is))

-- another core stands at a place, which is stable inside where the place is marked
pub stable-put : (view : List Atom) (cores : List (Option Core)) (marks : Rounds) (i : ℕ) (new : Core) → AreStableMarks view cores marks
    → (IsMarked marks i → IsStableInside view new × InsideBelow (marks.top + 1) new) → AreStableMarks view (set cores i (Some new)) marks
stable-put view cores marks i new h is place m = (omega (arith, at.0, length-set cores i (Some new)), by (eqb_tells place i))
  where
    at : (place < length cores) × ((core : Core) → get_or cores place None ≡ Some core → IsStableInside view core × InsideBelow (marks.top + 1) core)
    at = h place m

    by : ((eqb place i ≡ true) × (place ≡ i)) ⊎ ((eqb place i ≡ false) × (place ≢ i)) → (core : Core) → get_or (set cores i (Some new)) place None ≡ Some core
        → IsStableInside view core × InsideBelow (marks.top + 1) core
    by (inl here) core there =
        let stands : Some new ≡ Some core = sym (get_or-set_same cores i (Some new) None (omega (arith, at.0, here.1))) ∙ ap (λ (j : ℕ). get_or (set cores i (Some new)) j None) (sym here.1) ∙ there in
        subst (λ (c : Core). IsStableInside view c × InsideBelow (marks.top + 1) c) (ap (the new) stands) (is (subst (IsMarked marks) here.1 m))
    by (inr other) core there = at.1 core (sym (get_or-set_other cores i place (Some new) None other.1) ∙ there)

-- a split: what was marked is stable inside under more variables
pub stable-divided : (k : Kernel) (id : ℕ) (parts : Parts) (marks : Rounds) → IsKernel k → AreStableMarks k.view k.cores marks
    → AreStableMarks (divided k id parts).view (divided k id parts).cores marks
stable-divided k id parts marks is h place m = (omega (arith, inside, length-append (without k.cores id) (map Some parts.cores)), there)
  where
    inside : place < length (without k.cores id)
    inside = (stable-without k.view k.cores marks id h place m).0

    there : (core : Core) → get_or (without k.cores id ++ map Some parts.cores) place None ≡ Some core
        → IsStableInside (with_own_labels k.view parts.fresh) core × InsideBelow (marks.top + 1) core
    there core at =
        let before : get_or k.cores place None ≡ Some core =
        left-there k.cores (id - 1) place core (sym (get_or_append_left (without k.cores id) (map Some parts.cores) None place inside) ∙ at) in
        let below = (below-there k.cores (place + 1) core (at-next k.cores place (Some core) before) (length k.view + 1) is.below).0 in
        let was = (h place m).1 core before in
        (inside-further k.view parts.fresh (length k.view + 1) core below was.0, was.1)

-- ---- an equation: what has no variable from the loser on stays

own-kept : (view : List Atom) (c : Change) (v : ℕ) → 1 ≤ v → v < c.loser → IsOwnLabel view v → IsOwnLabel (map (replaced c.loser c.label) view) v
own-kept view c v low lower own = ⊎_elim past within (cases_lt (length view) v)
  where
    past : length view < v → IsOwnLabel (map (replaced c.loser c.label) view) v
    past h = label_of-past (map (replaced c.loser c.label) view) v (omega (arith, h, length-map view (replaced c.loser c.label)))

    within : v ≤ length view → IsOwnLabel (map (replaced c.loser c.label) view) v
    within h =
        label_of-map (replaced c.loser c.label) view v low h
        ∙ ap (replaced c.loser c.label) own
        ∙ cond-false (v == c.loser) _ _ (ne_eqb v c.loser (λ e. omega (arith, e, lower)))

stays-kept : (view : List Atom) (c : Change) (n : ℕ) → n ≤ c.loser → (l : Lit) → 1 ≤ l.var → l.var < n → resolve view (Of l) ≡ Of l → resolve (changed_by (Some c) view) (Of l) ≡ Of l
stays-kept view c n le l low lower e =
    own-stays (map (replaced c.loser c.label) view) l.var l.positive (own-kept view c l.var low (omega (arith, le, lower)) (stays-own view l.var l.positive e))

stable-changed : (view : List Atom) (cores : List (Option Core)) (old new : Rounds) (o : Option Change)
    → IfSome (option_map (λ c. c.loser) o) (λ x. (place : ℕ) → IsMarked new place → IsMarked old place × (old.top < x) × (new.top ≡ old.top))
    → (o ≡ None → new ≡ old) → AreStableMarks view cores old → AreStableMarks (changed_by o view) cores new
stable-changed view cores old new None lost same h = subst (AreStableMarks view cores) (sym (same refl)) h
stable-changed view cores old new (Some c) lost same h = λ place m. (
  (h place (lost place m).0).0,
  λ core is. kept core (lost place m).1 (lost place m).2 ((h place (lost place m).0).1 core is),
)
  where
    kept : (core : Core) → old.top < c.loser → new.top ≡ old.top → IsStableInside view core × InsideBelow (old.top + 1) core → IsStableInside (changed_by (Some c) view) core × InsideBelow (new.top + 1) core
    kept core lower top p = (
      inside-kept view (changed_by (Some c) view) (old.top + 1) (stays-kept view c (old.top + 1) (omega (arith, lower))) core p.0 p.1,
      subst (λ (n : ℕ). InsideBelow (n + 1) core) (sym top) p.1,
    )

-- marks that stay where a label is lost have only lesser variables noted
pub stable-merged : (view : List Atom) (a b : Atom) (cores : List (Option Core)) (old new : Rounds)
    → IfSome (loser_of view a b) (λ x. (place : ℕ) → IsMarked new place → IsMarked old place × (old.top < x) × (new.top ≡ old.top))
    → (loser_of view a b ≡ None → new ≡ old) → AreStableMarks view cores old → AreStableMarks (merged view a b) cores new
stable-merged view a b cores old new lost same h =
    stable-changed view cores old new (change_of view (resolve view a) (resolve view b)) lost (λ none. same (ap (option_map (λ c. c.loser)) none)) h
