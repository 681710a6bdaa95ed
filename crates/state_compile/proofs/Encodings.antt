-- What stays after an encoding: nothing is told, and no core is compound.
use Rattle.std.proofs.Common.{◌≡◌, ℕ, zero, suc, ◌+◌, ◌-◌, ◌<◌, ◌==◌, Bool, true, false, List, [], ◌∷◌, length, refl, sym, ap, ◌∙◌, arith, Option, Some, None, Ok}
use Rattle.std.specs.Prelude.{option_map, slice_index_or, slice_set, if◌then◌else◌}
use Rattle.std.proofs.lemmas.List.{length-append}
use Rattle.std.proofs.lemmas.Option.{none-some}
use Rattle.core_forms.specs.declared.equation.Equation.{Equation}
use Rattle.core_forms.specs.declared.form.Core.{Core}
use Rattle.core_forms.specs.Trimmed.{trimmed_core}
use Rattle.ledger_text.specs.declared.line.Line.TheVariants.{Encode}
use Rattle.step_kernel.specs.Kernel.{Kernel, core_at, trimmed_at, pending}
use Rattle.step_kernel.specs.Least.{least_from, least_compound_of}
use Rattle.core_parts.specs.Parts.{is_compound_of}
use Rattle.step_kernel.specs.Steps.{step, without, encoded}
use Rattle.step_kernel.proofs.Holes.{between}
use Rattle.step_kernel.proofs.There.{is-there}
use Rattle.fixpoint_queue.specs.Quiet.{IsClosed}
use Rattle.state_compile.proofs.Made.{made-by, runs-on}

-- a core that is there where another one is gone was there
was-there : (cores : List (Option Core)) (gone place : ℕ) (core : Core) → slice_index_or (slice_set cores gone None) place None ≡ Some core → slice_index_or cores place None ≡ Some core
was-there [] gone place core e = e
was-there (c ∷ cores) zero zero core e = absurd (none-some core e)
was-there (c ∷ cores) zero (suc place) core e = e
was-there (c ∷ cores) (suc gone) zero core e = e
was-there (c ∷ cores) (suc gone) (suc place) core e = was-there cores gone place core e

was-at : (cores : List (Option Core)) (gone id : ℕ) (core : Core) → core_at (without cores gone) id ≡ Some core → core_at cores id ≡ Some core
was-at cores gone id core = by (id == 0)
  where
    by : (b : Bool) → (if b then None else slice_index_or (without cores gone) (id - 1) None) ≡ Some core → (if b then None else slice_index_or cores (id - 1) None) ≡ Some core
    by true e = e
    by false e = was-there cores (gone - 1) (id - 1) core e

was-trimmed : (k : Kernel) (gone id : ℕ) (last core : Core) → trimmed_at (encoded k gone last) id ≡ Some core → trimmed_at k id ≡ Some core
was-trimmed k gone id last core e = by (core_at (without k.cores gone) id) refl e
  where
    by : (o : Option Core) → core_at (without k.cores gone) id ≡ o → option_map (trimmed_core k.view) o ≡ Some core → trimmed_at k id ≡ Some core
    by None at e = absurd (none-some core e)
    by (Some c) at e = ap (option_map (trimmed_core k.view)) (was-at k.cores gone id c at) ∙ e

none-without : (test : Core → Bool) (first : ℕ) (cores : List (Option Core)) (gone : ℕ) → least_from test first cores ≡ None → least_from test first (slice_set cores gone None) ≡ None
none-without test first [] gone e = e
none-without test first (None ∷ cores) zero e = e
none-without test first (None ∷ cores) (suc gone) e = none-without test (first + 1) cores gone e
none-without test first (Some core ∷ cores) zero e = by (test core) e
  where
    by : (b : Bool) → (if b then Some first else least_from test (first + 1) cores) ≡ None → least_from test (first + 1) cores ≡ None
    by true e = absurd (none-some first (sym e))
    by false e = e
none-without test first (Some core ∷ cores) (suc gone) e = by (test core) e (none-without test (first + 1) cores gone)
  where
    by : (b : Bool) → (if b then Some first else least_from test (first + 1) cores) ≡ None → (least_from test (first + 1) cores ≡ None → least_from test (first + 1) (slice_set cores gone None) ≡ None)
        → (if b then Some first else least_from test (first + 1) (slice_set cores gone None)) ≡ None
    by true e rest = e
    by false e rest = rest e

module _ (told : Core → Equation → Type 0) (k new : Kernel) (id : ℕ) (core : Core) (there : trimmed_at k id ≡ Some core) (made : step k (Encode id) ≡ Ok new) where
  is : new ≡ encoded k id core
  is = made-by k new (Encode id) core there made

  pub encoded-running : new.bottom ≡ false
  encoded-running = ap (λ (kk : Kernel). kk.bottom) is ∙ runs-on k new (Encode id) made

  pub encoded-closed : IsClosed told k → IsClosed told new
  encoded-closed closed j c at e t =
      closed j c (was-trimmed k id j core c (ap (λ (kk : Kernel). trimmed_at kk j) (sym is) ∙ at)) e t

  pub encoded-none : least_compound_of k ≡ None → least_compound_of new ≡ None
  encoded-none none =
      ap least_compound_of is ∙ none-without (λ c. is_compound_of (trimmed_core k.view c)) 1 k.cores (id - 1) none

-- one core fewer is pending
pub fewer-pending : (k new : Kernel) (id : ℕ) (core : Core) → trimmed_at k id ≡ Some core → step k (Encode id) ≡ Ok new → length (pending new.cores) < length (pending k.cores)
fewer-pending k new id core there made =
    let r = is-there k id core there in
    let b = between k.cores id r.core r.at in
    omega (
      arith,
      ap (λ (kk : Kernel). length (pending kk.cores)) (made-by k new (Encode id) core there made),
      ap length b.is,
      ap length b.gone,
      length-append b.front (r.core ∷ b.back),
      length-append b.front b.back,
    )
