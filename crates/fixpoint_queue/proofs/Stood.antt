-- Cores that come and go stand at their variables.
use Rattle.std.proofs.Common.{◌≡◌, ◌↔◌, ◌⊎◌, inl, inr, ℕ, zero, suc, ◌+◌, ◌-◌, ◌≤◌, ◌<◌, ◌==◌, Bool, false, List, [], ◌∷◌, ◌++◌, length, get_or, set, refl, sym, ap, ◌∙◌, subst, arith, ⊎_elim, Option, Some, None}
use Rattle.std.specs.Prelude.{Contains, if◌then◌else◌}
use Rattle.std.proofs.lemmas.Option.{none-some}
use Rattle.std.proofs.lemmas.Bool.{cases_eq, cases_lt}
use Rattle.std.proofs.lemmas.Bool.Decides.{nat_tests}
use Rattle.std.proofs.lemmas.List.{get_or-set_other, get_or_append_left, get_or_past, length-append}
use Rattle.std.proofs.Math.Seq.{get_or-append_seam}
use Rattle.core_forms.specs.declared.form.Core.{Core}
use Rattle.core_forms.specs.Variables.{core_vars}
use Rattle.core_occurrences.specs.Lists.{OccurrenceLists, IsOccurrences, Occurs, cores_at, grown, added, removed}
use Rattle.core_occurrences.proofs.Lawful.{added_elsewhere, added_occurs, removed_occurs, grown_stays}
use Rattle.step_kernel.specs.Kernel.{core_at}
use Rattle.step_kernel.specs.Steps.{without}
use Rattle.fixpoint_queue.specs.Standing.{HasVarAt, IsThere, Stand, StandBut, AreVars}

place-of : (cores : List (Option Core)) (id : ℕ) → 1 ≤ id → core_at cores id ≡ get_or cores (id - 1) None
place-of cores id low =
    let no : (id == 0) ≡ false = grind (arith, nat_tests, low) in
    ap (λ (t : Bool). if t then None else get_or cores (id - 1) None) no

-- ---- one more core

pub core_at-before : (cores : List (Option Core)) (x : Option Core) (id : ℕ) → id ≤ length cores → core_at (cores ++ x ∷ []) id ≡ core_at cores id
core_at-before cores x zero high = refl
core_at-before cores x (suc i) high =
    place-of (cores ++ x ∷ []) (suc i) (omega arith)
    ∙ (let e : suc i - 1 ≡ i = omega arith in ap (λ (j : ℕ). get_or (cores ++ x ∷ []) j None) e ∙ get_or_append_left cores (x ∷ []) None i (omega (arith, high)) ∙ ap (λ (j : ℕ). get_or cores j None) (sym e))
    ∙ sym (place-of cores (suc i) (omega arith))

pub core_at-last : (cores : List (Option Core)) (x : Option Core) → core_at (cores ++ x ∷ []) (length cores + 1) ≡ x
core_at-last cores x =
    let e : length cores + 1 - 1 ≡ length cores = omega arith in
    place-of (cores ++ x ∷ []) (length cores + 1) (omega arith) ∙ ap (λ (j : ℕ). get_or (cores ++ x ∷ []) j None) e ∙ get_or-append_seam cores x [] None

pub core_at-past : (cores : List (Option Core)) (id : ℕ) → length cores < id → core_at cores id ≡ None
core_at-past cores id past = place-of cores id (omega (arith, past)) ∙ get_or_past cores (id - 1) None (omega (arith, past))

pub core_at-elsewhere : (cores : List (Option Core)) (x : Option Core) (id : ℕ) → (id ≡ length cores + 1 → ⊥) → core_at (cores ++ x ∷ []) id ≡ core_at cores id
core_at-elsewhere cores x id other =
    ⊎_elim
    (λ (past : length cores < id).
    core_at-past (cores ++ x ∷ []) id (⊎_elim (λ (h : id < length cores + 2). absurd (other (omega (arith, past, h)))) (λ (h : length cores + 2 ≤ id). omega (arith, h, length-append cores (x ∷ []))) (cases_lt id (length cores + 2)))
    ∙ sym (core_at-past cores id past))
    (λ (within : id ≤ length cores). core_at-before cores x id within)
    (cases_lt (length cores) id)

pub stand-none : (held : ℕ) (cores : List (Option Core)) (occurs : OccurrenceLists) → StandBut held cores occurs → StandBut held (cores ++ None ∷ []) occurs
stand-none held cores occurs stand v id low apart = (to, from)
  where
    same : core_at (cores ++ None ∷ []) id ≡ core_at cores id
    same = ⊎_elim (λ (e : id ≡ length cores + 1). ap (core_at (cores ++ None ∷ [])) e ∙ core_at-last cores None ∙ sym (core_at-past cores id (omega (arith, e)))) (core_at-elsewhere cores None id) (cases_eq id (length cores + 1))

    to : Occurs occurs v id → IsThere (cores ++ None ∷ []) id
    to o = let has = (stand v id low apart).0 o in (has.0, same ∙ has.1)

    from : HasVarAt (cores ++ None ∷ []) id v → Occurs occurs v id
    from has = (stand v id low apart).1 (has.0, sym same ∙ has.1, has.2)

-- the new lists have what the old ones had, and the new id at its variables
pub occurs-added : (occurs : OccurrenceLists) (new : ℕ) (vars : List ℕ) → ((v : ℕ) → Contains vars v → v ≤ length occurs.lists) → (v id : ℕ) → 1 ≤ v
    → Occurs (added occurs new vars) v id ↔ (Occurs occurs v id ⊎ ((id ≡ new) × Contains vars v))
occurs-added occurs new vars bound v id low =
    ⊎_elim
    (λ (past : length occurs.lists < v).
    let none : Contains vars v → ⊥ = λ there. absurd (omega (arith, past, bound v there)) in
    let same : cores_at (added occurs new vars) v ≡ cores_at occurs v = added_elsewhere occurs new vars v low none in (
      λ (o : Occurs (added occurs new vars) v id). inl (subst (λ (l : List ℕ). Contains l id) same o),
      λ (h : Occurs occurs v id ⊎ ((id ≡ new) × Contains vars v)).
          ⊎_elim (λ (o : Occurs occurs v id). subst (λ (l : List ℕ). Contains l id) (sym same) o) (λ (n : (id ≡ new) × Contains vars v). absurd (none n.1)) h,
    ))
    (λ (within : v ≤ length occurs.lists). added_occurs occurs new vars v id low within)
    (cases_lt (length occurs.lists) v)

pub some-of : (x y : Core) → ◌≡◌ {A = Option Core} (Some x) (Some y) → x ≡ y
some-of x y h = cc

pub stand-added : (held : ℕ) (cores : List (Option Core)) (occurs : OccurrenceLists) (core : Core) (vars : List ℕ) (new : ℕ) → new ≡ length cores + 1 → AreVars vars core → ((v : ℕ) → Contains vars v → v ≤ length occurs.lists) →
    StandBut held cores occurs → StandBut held (cores ++ Some core ∷ []) (added occurs new vars)
stand-added held cores occurs core vars new is are bound stand v id low apart = (to, from)
  where
    occurs-new : Occurs (added occurs new vars) v id ↔ (Occurs occurs v id ⊎ ((id ≡ new) × Contains vars v))
    occurs-new = occurs-added occurs new vars bound v id low

    to : Occurs (added occurs new vars) v id → IsThere (cores ++ Some core ∷ []) id
    to o =
        ⊎_elim
        (λ (old : Occurs occurs v id).
        let has = (stand v id low apart).0 old in
        let other : id ≡ length cores + 1 → ⊥ = λ e. none-some has.0 (sym (core_at-past cores id (omega (arith, e))) ∙ has.1) in
        (has.0, core_at-elsewhere cores (Some core) id other ∙ has.1))
        (λ (n : (id ≡ new) × Contains vars v). (core, ap (core_at (cores ++ Some core ∷ [])) (n.0 ∙ is) ∙ core_at-last cores (Some core)))
        (occurs-new.0 o)

    from : HasVarAt (cores ++ Some core ∷ []) id v → Occurs (added occurs new vars) v id
    from has =
        ⊎_elim
        (λ (e : id ≡ length cores + 1).
        let own : core ≡ has.0 = some-of core has.0 (sym (core_at-last cores (Some core)) ∙ ap (core_at (cores ++ Some core ∷ [])) (sym e) ∙ has.1) in
        occurs-new.1 (inr (e ∙ sym is, (are.exact v).1 (subst (λ (c : Core). Contains (core_vars c) v) (sym own) has.2))))
        (λ (other : id ≡ length cores + 1 → ⊥).
        occurs-new.1 (inl ((stand v id low apart).1 (has.0, sym (core_at-elsewhere cores (Some core) id other) ∙ has.1, has.2))))
        (cases_eq id (length cores + 1))

-- the one of which nothing is said comes
pub stand-passed : (held : ℕ) (cores : List (Option Core)) (occurs : OccurrenceLists) (core : Core) → held ≡ length cores + 1 → StandBut held cores occurs → StandBut held (cores ++ Some core ∷ []) occurs
stand-passed held cores occurs core is stand v id low apart = (
  λ o. let has = (stand v id low apart).0 o in (has.0, core_at-elsewhere cores (Some core) id other ∙ has.1),
  λ has. (stand v id low apart).1 (has.0, sym (core_at-elsewhere cores (Some core) id other) ∙ has.1, has.2),
)
  where
    other : id ≡ length cores + 1 → ⊥
    other e = apart (e ∙ sym is)

-- something is said of it too
pub stand-held : (held : ℕ) (cores : List (Option Core)) (occurs : OccurrenceLists) → IsOccurrences occurs → (held ≡ 0) ⊎ (IsThere cores held × ((v : ℕ) → 1 ≤ v → HasVarAt cores held v → Occurs occurs v held)) → StandBut held cores occurs → Stand cores occurs
stand-held held cores occurs is own stand v id low =
    ⊎_elim (λ (e : id ≡ held). at_held e own) (λ (n : id ≡ held → ⊥). stand v id low n) (cases_eq id held)
  where
    at_held : id ≡ held → (held ≡ 0) ⊎ (IsThere cores held × ((w : ℕ) → 1 ≤ w → HasVarAt cores held w → Occurs occurs w held)) → (Occurs occurs v id → IsThere cores id) × (HasVarAt cores id v → Occurs occurs v id)
    at_held e (inl z) = (
      λ o. absurd (omega (arith, (is.inside v id o).0, e, z)),
      λ has. absurd (none-some has.0 (sym (ap (core_at cores) (e ∙ z)) ∙ has.1)),
    )
    at_held e (inr h) = (
      λ o. subst (IsThere cores) (sym e) h.0,
      λ has. subst (Occurs occurs v) (sym e) (h.1 v low (subst (λ (i : ℕ). HasVarAt cores i v) e has)),
    )

-- ---- a core goes

pub core_at-without : (cores : List (Option Core)) (gone id : ℕ) → 1 ≤ gone → (id ≡ gone → ⊥) → core_at (without cores gone) id ≡ core_at cores id
core_at-without cores gone zero low other = refl
core_at-without cores gone (suc i) low other =
    place-of (without cores gone) (suc i) (omega arith)
    ∙ get_or-set_other cores (gone - 1) (suc i - 1) None None (λ e. other (omega (arith, e, low)))
    ∙ sym (place-of cores (suc i) (omega arith))

pub core_at-gone : (cores : List (Option Core)) (gone : ℕ) → 1 ≤ gone → core_at (without cores gone) gone ≡ None
core_at-gone cores gone low = place-of (without cores gone) gone low ∙ emptied cores (gone - 1)
  where
    emptied : (cs : List (Option Core)) (i : ℕ) → get_or (set cs i None) i None ≡ None
    emptied [] i = refl
    emptied (c ∷ cs) zero = refl
    emptied (c ∷ cs) (suc i) = emptied cs i

-- all stand as before but that core
pub stand-without : (cores : List (Option Core)) (occurs : OccurrenceLists) (gone : ℕ) → 1 ≤ gone → Stand cores occurs → StandBut gone (without cores gone) occurs
stand-without cores occurs gone first stand v id low apart = (
  λ o. let has = (stand v id low).0 o in (has.0, core_at-without cores gone id first apart ∙ has.1),
  λ has. (stand v id low).1 (has.0, sym (core_at-without cores gone id first apart) ∙ has.1, has.2),
)

pub stand-removed : (cores : List (Option Core)) (occurs : OccurrenceLists) (gone : ℕ) → 1 ≤ gone → Stand cores occurs → Stand (without cores gone) (removed occurs gone)
stand-removed cores occurs gone low stand v id first = (to, from)
  where
    to : Occurs (removed occurs gone) v id → IsThere (without cores gone) id
    to o =
        let old = (removed_occurs occurs gone v id).0 o in
        let has = (stand v id first).0 old.0 in
        (has.0, core_at-without cores gone id low old.1 ∙ has.1)

    from : HasVarAt (without cores gone) id v → Occurs (removed occurs gone) v id
    from has =
        let other : id ≡ gone → ⊥ = λ e. none-some has.0 (sym (core_at-gone cores gone low) ∙ ap (core_at (without cores gone)) (sym e) ∙ has.1) in
        (removed_occurs occurs gone v id).1 ((stand v id first).1 (has.0, sym (core_at-without cores gone id low other) ∙ has.1, has.2), other)

pub stand-grown : (held : ℕ) (cores : List (Option Core)) (occurs : OccurrenceLists) (vars ids nodes : ℕ) → StandBut held cores occurs → StandBut held cores (grown occurs vars ids nodes)
stand-grown held cores occurs vars ids nodes stand v id low apart =
    let same : cores_at (grown occurs vars ids nodes) v ≡ cores_at occurs v = grown_stays occurs vars ids nodes v in (
      λ o. (stand v id low apart).0 (subst (λ (l : List ℕ). Contains l id) same o),
      λ has. subst (λ (l : List ℕ). Contains l id) (sym same) ((stand v id low apart).1 has),
    )
