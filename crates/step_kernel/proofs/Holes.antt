-- What the pending cores are where one is taken out, or cores come behind.
use Rattle.std.proofs.Common.{◌≡◌, ◌↔◌, ℕ, zero, suc, ◌+◌, ◌-◌, ◌≤◌, ◌==◌, Bool, true, false, List, [], ◌∷◌, ◌++◌, map, length, refl, sym, ap, ◌∙◌, subst, arith}
use Rattle.std.specs.Prelude.{Option, None, Some, slice_index_or, slice_set, if◌then◌else◌}
use Rattle.std.proofs.lemmas.Bool.Decides.{nat_tests}
use Rattle.std.proofs.lemmas.List.{get_or_default, set-set, set-get_or}
use Rattle.std.proofs.lemmas.Option.{none-some}
use Rattle.order_ints.specs.declared.atom.Atom.{Atom}
use Rattle.order_ints.specs.Truth.{Valuation}
use Rattle.core_forms.specs.declared.form.Core.{Core}
use Rattle.core_forms.specs.Meaning.{Meets}
use Rattle.core_forms.specs.Place.{CoreBelow}
use Rattle.core_forms.specs.WellFormed.{IsWellFormed}
use Rattle.core_forms.specs.Trimmed.{trimmed_core}
use Rattle.core_forms.specs.Cost.{cost_of}
use Rattle.core_forms.specs.Cores.{MeetsAll, CoresBelow, AreWellFormed}
use Rattle.core_forms.proofs.CoreLists.{MeetsAll-first, MeetsAll-append, CoresBelow-append, CoresBelow-left, CoresBelow-right, AreWellFormed-append, AreWellFormed-left, AreWellFormed-right}
use Rattle.step_kernel.specs.Kernel.{core_at, pending, trimmed_costs}
use Rattle.step_kernel.specs.Steps.{without}

pub pending-append : (cs ds : List (Option Core)) → pending (cs ++ ds) ≡ pending cs ++ pending ds
pending-append [] ds = refl
pending-append (None ∷ cs) ds = pending-append cs ds
pending-append (Some core ∷ cs) ds = ap (λ cores. core ∷ cores) (pending-append cs ds)

-- a core that is there, or else another one
abbrev pub the : Core → Option Core → Core
the core None = core
the core (Some other) = other

-- the place of a core
pub place-there : (cores : List (Option Core)) (id : ℕ) (core : Core) → core_at cores id ≡ Some core → slice_index_or cores (id - 1) None ≡ Some core
place-there cores id core there = by (id == 0) refl there
  where
    by : (b : Bool) → (id == 0) ≡ b → (if b then None else slice_index_or cores (id - 1) None) ≡ Some core → slice_index_or cores (id - 1) None ≡ Some core
    by true t e = absurd (none-some core e)
    by false t e = e

-- and the core that stands at the place of an id
pub at-id : (cores : List (Option Core)) (id : ℕ) (x : Option Core) → 1 ≤ id → slice_index_or cores (id - 1) None ≡ x → core_at cores id ≡ x
at-id cores id x low is = by (id == 0) refl
  where
    by : (b : Bool) → (id == 0) ≡ b → (if b then None else slice_index_or cores (id - 1) None) ≡ x
    by true t = absurd (grind (arith, nat_tests, t, low))
    by false t = is

pub read-id : (cores : List (Option Core)) (id : ℕ) (x : Option Core) (core : Core) → 1 ≤ id → id ≤ length cores → x ≡ slice_index_or cores (id - 1) x → x ≡ Some core → core_at cores id ≡ Some core
read-id cores id x core low high read is = at-id cores id (Some core) low (get_or_default cores (id - 1) None x (omega (arith, low, high)) ∙ sym read ∙ is)

-- what is put at the place of a core that was taken out
pub put-again : (cs taken made : List (Option Core)) (i : ℕ) (new : Core) → taken ≡ slice_set cs i None → made ≡ slice_set taken i (Some new) → made ≡ slice_set cs i (Some new)
put-again cs taken made i new out back = back ∙ ap (λ (t : List (Option Core)). slice_set t i (Some new)) out ∙ set-set cs i None (Some new)

pub put-same : (cs : List (Option Core)) (i : ℕ) (core : Core) → slice_index_or cs i None ≡ Some core → slice_set cs i (Some core) ≡ cs
put-same cs i core is = ap (slice_set cs i) (sym is) ∙ set-get_or cs i None

-- parts that come behind are all pending
pub pending-parts : (parts : List Core) → pending (map Some parts) ≡ parts
pending-parts [] = refl
pending-parts (core ∷ parts) = ap (λ cores. core ∷ cores) (pending-parts parts)

record StandsAt (cores : List (Option Core)) (i : ℕ) (core : Core) : Type 0 where
  front : List (Option Core)
  back : List (Option Core)
  is : cores ≡ front ++ Some core ∷ back
  put : (x : Option Core) → slice_set cores i x ≡ front ++ x ∷ back

stands_at : (cores : List (Option Core)) (i : ℕ) (core : Core) → slice_index_or cores i None ≡ Some core → StandsAt cores i core
stands_at [] i core e = absurd (none-some core e)
stands_at (c ∷ cores) zero core e = record { front = []; back = cores; is = ap (λ x. x ∷ cores) e; put = λ x. refl }
stands_at (c ∷ cores) (suc i) core e =
    let r = stands_at cores i core e in
    record { front = c ∷ r.front; back = r.back; is = ap (λ cs. c ∷ cs) r.is; put = λ x. ap (λ cs. c ∷ cs) (r.put x) }

-- a pending core between those before it and those behind it, which are left without it, and with another one there
pub record Between (cores : List (Option Core)) (id : ℕ) (core : Core) : Type 0 where
  pub front : List Core
  pub back : List Core
  pub is : pending cores ≡ front ++ core ∷ back
  pub gone : pending (without cores id) ≡ front ++ back
  pub put : (new : Core) → pending (slice_set cores (id - 1) (Some new)) ≡ front ++ new ∷ back

pub between : (cores : List (Option Core)) (id : ℕ) (core : Core) → core_at cores id ≡ Some core → Between cores id core
between cores id core e = by_id (id == 0) refl e
  where
    by_id : (b : Bool) → (id == 0) ≡ b → (if b then None else slice_index_or cores (id - 1) None) ≡ Some core → Between cores id core
    by_id true t e = absurd (none-some core e)
    by_id false t e =
        let r = stands_at cores (id - 1) core e in
        record {
          front = pending r.front;
          back = pending r.back;
          is = ap pending r.is ∙ pending-append r.front (Some core ∷ r.back);
          gone = ap pending (r.put None) ∙ pending-append r.front (None ∷ r.back);
          put = λ new. ap pending (r.put (Some new)) ∙ pending-append r.front (Some new ∷ r.back);
        }

-- all are met exactly where it and the others are
pub met-between : (σ : Valuation) (front back : List Core) (core : Core) → MeetsAll σ (front ++ core ∷ back) ↔ (Meets σ core × MeetsAll σ (front ++ back))
met-between σ front back core = (
  λ h.
      let p = (MeetsAll-append σ front (core ∷ back)).0 h in
      let q = (MeetsAll-first σ core back).0 p.1 in
      (q.0, (MeetsAll-append σ front back).1 (p.0, q.1)),
  λ h.
      let p = (MeetsAll-append σ front back).0 h.1 in
      (MeetsAll-append σ front (core ∷ back)).1 (p.0, (MeetsAll-first σ core back).1 (h.0, p.1)),
)

below-between : (n : ℕ) (front back : List Core) (core : Core) → CoresBelow n (front ++ core ∷ back) → CoreBelow n core × CoresBelow n (front ++ back)
below-between n front back core h =
    let q = CoresBelow-right n front (core ∷ back) h in
    (q.0, CoresBelow-append n front back (CoresBelow-left n front (core ∷ back) h) q.1)

formed-between : (front back : List Core) (core : Core) → AreWellFormed (front ++ core ∷ back) → IsWellFormed core × AreWellFormed (front ++ back)
formed-between front back core h =
    let q = AreWellFormed-right front (core ∷ back) h in
    (q.0, AreWellFormed-append front back (AreWellFormed-left front (core ∷ back) h) q.1)

costs-between : (view : List Atom) (front back : List Core) (core : Core) → trimmed_costs view (front ++ core ∷ back) ≡ cost_of (trimmed_core view core) + trimmed_costs view (front ++ back)
costs-between view [] back core = refl
costs-between view (c ∷ front) back core = omega (arith, costs-between view front back core)

-- the same of the pending cores
module _ (cores : List (Option Core)) (id : ℕ) (core : Core) (at : core_at cores id ≡ Some core) where
  pub met-there : (σ : Valuation) → MeetsAll σ (pending cores) ↔ (Meets σ core × MeetsAll σ (pending (without cores id)))
  met-there σ =
      let b = between cores id core at in
      let r = met-between σ b.front b.back core in (
        λ h. let p = r.0 (subst (MeetsAll σ) b.is h) in (p.0, subst (MeetsAll σ) (sym b.gone) p.1),
        λ h. subst (MeetsAll σ) (sym b.is) (r.1 (h.0, subst (MeetsAll σ) b.gone h.1)),
      )

  pub below-there : (n : ℕ) → CoresBelow n (pending cores) → CoreBelow n core × CoresBelow n (pending (without cores id))
  below-there n h =
      let b = between cores id core at in
      let p = below-between n b.front b.back core (subst (CoresBelow n) b.is h) in
      (p.0, subst (CoresBelow n) (sym b.gone) p.1)

  pub formed-there : AreWellFormed (pending cores) → IsWellFormed core × AreWellFormed (pending (without cores id))
  formed-there h =
      let b = between cores id core at in
      let p = formed-between b.front b.back core (subst AreWellFormed b.is h) in
      (p.0, subst AreWellFormed (sym b.gone) p.1)

  pub costs-there : (view : List Atom) → trimmed_costs view (pending cores) ≡ cost_of (trimmed_core view core) + trimmed_costs view (pending (without cores id))
  costs-there view =
      let b = between cores id core at in
      ap (trimmed_costs view) b.is ∙ costs-between view b.front b.back core ∙ ap (λ cs. cost_of (trimmed_core view core) + trimmed_costs view cs) (sym b.gone)

  -- and of those with another core there
  pub below-put : (n : ℕ) (new : Core) → CoresBelow n (pending cores) → CoreBelow n new → CoresBelow n (pending (slice_set cores (id - 1) (Some new)))
  below-put n new h here =
      let b = between cores id core at in
      let p = subst (CoresBelow n) b.is h in
      let q : CoresBelow n (core ∷ b.back) = CoresBelow-right n b.front (core ∷ b.back) p in
      subst (CoresBelow n) (sym (b.put new)) (CoresBelow-append n b.front (new ∷ b.back) (CoresBelow-left n b.front (core ∷ b.back) p) (here, q.1))

  pub formed-put : (new : Core) → AreWellFormed (pending cores) → IsWellFormed new → AreWellFormed (pending (slice_set cores (id - 1) (Some new)))
  formed-put new h here =
      let b = between cores id core at in
      let p = subst AreWellFormed b.is h in
      let q : AreWellFormed (core ∷ b.back) = AreWellFormed-right b.front (core ∷ b.back) p in
      subst AreWellFormed (sym (b.put new)) (AreWellFormed-append b.front (new ∷ b.back) (AreWellFormed-left b.front (core ∷ b.back) p) (here, q.1))

  pub costs-put : (view : List Atom) (new : Core) → trimmed_costs view (pending (slice_set cores (id - 1) (Some new))) ≡ cost_of (trimmed_core view new) + trimmed_costs view (pending (without cores id))
  costs-put view new =
      let b = between cores id core at in
      ap (trimmed_costs view) (b.put new) ∙ costs-between view b.front b.back new ∙ ap (λ cs. cost_of (trimmed_core view new) + trimmed_costs view cs) (sym b.gone)
