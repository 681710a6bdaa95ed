-- What the least ids tell.
use Rattle.std.proofs.Common.{◌≡◌, ℕ, zero, suc, ◌+◌, Bool, true, false, not, List, [], ◌∷◌, refl, sym, ap, ◌∙◌, arith, Option, Some, None}
use Rattle.std.specs.Prelude.{option_map, slice_index_or, if◌then◌else◌}
use Rattle.std.proofs.lemmas.Bool.{true≢false}
use Rattle.std.proofs.lemmas.Option.{none-some}
use Rattle.core_forms.specs.declared.form.Core.{Core}
use Rattle.core_forms.specs.Basic.{is_basic_of}
use Rattle.core_forms.specs.Trimmed.{trimmed_core}
use Rattle.step_kernel.specs.Kernel.{Kernel, trimmed_at, pending}
use Rattle.step_kernel.specs.Least.{least_from, least_of, least_compound_of, is_compound_if}
use Rattle.core_parts.specs.Parts.{is_compound_of}
use Rattle.step_kernel.proofs.LeastCompound.{core_at-next}

some-of : (x y : ℕ) → ◌≡◌ {A = Option ℕ} (Some x) (Some y) → x ≡ y
some-of x y e = cc

-- a core that passes a test, at its place
record Found (test : Core → Bool) (first : ℕ) (cores : List (Option Core)) (id : ℕ) : Type 0 where
  place : ℕ
  core : Core
  is : id ≡ first + place
  at : slice_index_or cores place None ≡ Some core
  passes : test core ≡ true

found : (test : Core → Bool) (first : ℕ) (cores : List (Option Core)) (id : ℕ) → least_from test first cores ≡ Some id → Found test first cores id
found test first [] id e = absurd (none-some id e)
found test first (None ∷ cores) id e =
    let r = found test (first + 1) cores id e in
    record { place = suc r.place; core = r.core; is = omega (arith, r.is); at = r.at; passes = r.passes }
found test first (Some core ∷ cores) id e = by (test core) refl e (found test (first + 1) cores id)
  where
    by : (b : Bool) → test core ≡ b → (if b then Some first else least_from test (first + 1) cores) ≡ Some id
        → (least_from test (first + 1) cores ≡ Some id → Found test (first + 1) cores id) → Found test first (Some core ∷ cores) id
    by true t e rest = record { place = 0; core = core; is = omega (arith, some-of first id e); at = refl; passes = t }
    by false t e rest =
        let r = rest e in
        record { place = suc r.place; core = r.core; is = omega (arith, r.is); at = r.at; passes = r.passes }

-- where none passes, no core does
none-passes : (test : Core → Bool) (first : ℕ) (cores : List (Option Core)) → least_from test first cores ≡ None → (place : ℕ) (core : Core) → slice_index_or cores place None ≡ Some core → test core ≡ false
none-passes test first [] none place core at = absurd (none-some core at)
none-passes test first (None ∷ cores) none zero core at = absurd (none-some core at)
none-passes test first (None ∷ cores) none (suc place) core at = none-passes test (first + 1) cores none place core at
none-passes test first (Some c ∷ cores) none place core at = by (test c) refl none place at (λ rest p. none-passes test (first + 1) cores rest p core)
  where
    core-of : (x y : Core) → ◌≡◌ {A = Option Core} (Some x) (Some y) → x ≡ y
    core-of x y h = cc

    by : (b : Bool) → test c ≡ b → (if b then Some first else least_from test (first + 1) cores) ≡ None → (p : ℕ) → slice_index_or (Some c ∷ cores) p None ≡ Some core
        → (least_from test (first + 1) cores ≡ None → (q : ℕ) → slice_index_or cores q None ≡ Some core → test core ≡ false) → test core ≡ false
    by true t none p at rest = absurd (none-some first (sym none))
    by false t none zero at rest = ap test (sym (core-of c core at)) ∙ t
    by false t none (suc p) at rest = rest none p at

-- where no id is the least, nothing is pending
none-pending : (first : ℕ) (cores : List (Option Core)) → least_from (λ core. true) first cores ≡ None → pending cores ≡ []
none-pending first [] none = refl
none-pending first (None ∷ cores) none = none-pending (first + 1) cores none
none-pending first (Some core ∷ cores) none = absurd (none-some first (sym none))

pub all-gone : (k : Kernel) → None ≡ least_of k → pending k.cores ≡ []
all-gone k none = none-pending 1 k.cores (sym none)

stands : (k : Kernel) (id place : ℕ) (core : Core) → id ≡ 1 + place → slice_index_or k.cores place None ≡ Some core → trimmed_at k id ≡ Some (trimmed_core k.view core)
stands k id place core is at =
    let e : id ≡ place + 1 = omega (arith, is) in
    ap (trimmed_at k) e ∙ ap (option_map (trimmed_core k.view)) (core_at-next k.cores place ∙ at)

-- the least compound core, as the store has it
pub record Compound (k : Kernel) (id : ℕ) : Type 0 where
  pub core : Core
  pub there : trimmed_at k id ≡ Some core
  pub compound : is_compound_of core ≡ true

pub compound-there : (k : Kernel) (id : ℕ) → least_compound_of k ≡ Some id → Compound k id
compound-there k id least =
    let r = found (λ core. is_compound_of (trimmed_core k.view core)) 1 k.cores id least in
    record { core = trimmed_core k.view r.core; there = stands k id r.place r.core r.is r.at; compound = r.passes }

pub compound-if : (k : Kernel) (id : ℕ) → least_compound_of k ≡ Some id → is_compound_if (trimmed_at k id) ≡ true
compound-if k id least = let c = compound-there k id least in ap is_compound_if c.there ∙ c.compound

-- the least core, where none is compound
is-basic : (b : Bool) → not b ≡ false → b ≡ true
is-basic true h = refl
is-basic false h = absurd (true≢false h)

pub basic-there : (k : Kernel) (id : ℕ) → least_compound_of k ≡ None → least_of k ≡ Some id → (core : Core) × (trimmed_at k id ≡ Some core) × (is_basic_of core ≡ true)
basic-there k id none least =
    let r = found (λ core. true) 1 k.cores id least in (
      trimmed_core k.view r.core,
      stands k id r.place r.core r.is r.at,
      is-basic (is_basic_of (trimmed_core k.view r.core)) (none-passes (λ core. is_compound_of (trimmed_core k.view core)) 1 k.cores none r.place r.core r.at),
    )
