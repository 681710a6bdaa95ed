-- The least compound core, place by place.
use Rattle.std.proofs.Common.{◌≡◌, ℕ, suc, ◌+◌, ◌-◌, ◌<◌, ◌==◌, Bool, true, false, List, ◌∷◌, length, get_or, drop, drop-cons, refl, sym, ap, ◌∙◌, arith, Option, Some, None}
use Rattle.std.specs.Prelude.{option_map, slice_index_or, if◌then◌else◌}
use Rattle.std.proofs.lemmas.Bool.{false≢true}
use Rattle.std.proofs.lemmas.Bool.Decides.{nat_tests}
use Rattle.core_forms.specs.declared.form.Core.{Core}
use Rattle.core_forms.specs.Trimmed.{trimmed_core}
use Rattle.step_kernel.specs.Kernel.{Kernel, core_at, trimmed_at}
use Rattle.core_parts.specs.Parts.{is_compound_of}
use Rattle.step_kernel.specs.Least.{least_from, is_compound_if}

pub core_at-next : (cores : List (Option Core)) (i : ℕ) → core_at cores (i + 1) ≡ slice_index_or cores i None
core_at-next cores i =
    let no : (i + 1 == 0) ≡ false = grind (arith, nat_tests) in
    let back : i + 1 - 1 ≡ i = omega arith in
    ap (λ (t : Bool). if t then None else slice_index_or cores (i + 1 - 1) None) no ∙ ap (λ (j : ℕ). slice_index_or cores j None) back

module _ (k : Kernel) (i : ℕ) (lt : i < length k.cores) where
  at : trimmed_at k (i + 1) ≡ option_map (trimmed_core k.view) (get_or k.cores i None)
  at = ap (option_map (trimmed_core k.view)) (core_at-next k.cores i)

  dropped : drop i k.cores ≡ get_or k.cores i None ∷ drop (i + 1) k.cores
  dropped = let e : suc i ≡ i + 1 = omega arith in drop-cons k.cores i None lt ∙ ap (λ (j : ℕ). get_or k.cores i None ∷ drop j k.cores) e

  next-by : (o : Option Core) → is_compound_if (option_map (trimmed_core k.view) o) ≡ false
      → least_from (λ core. is_compound_of (trimmed_core k.view core)) (i + 1) (o ∷ drop (i + 1) k.cores) ≡ least_from (λ core. is_compound_of (trimmed_core k.view core)) (i + 1 + 1) (drop (i + 1) k.cores)
  next-by None e = refl
  next-by (Some core) e = ap (λ (t : Bool). if t then Some (i + 1) else least_from (λ c. is_compound_of (trimmed_core k.view c)) (i + 1 + 1) (drop (i + 1) k.cores)) e

  here-by : (o : Option Core) → is_compound_if (option_map (trimmed_core k.view) o) ≡ true
      → least_from (λ core. is_compound_of (trimmed_core k.view core)) (i + 1) (o ∷ drop (i + 1) k.cores) ≡ Some (i + 1)
  here-by None e = absurd (false≢true e)
  here-by (Some core) e = ap (λ (t : Bool). if t then Some (i + 1) else least_from (λ c. is_compound_of (trimmed_core k.view c)) (i + 1 + 1) (drop (i + 1) k.cores)) e

  pub compound-next : is_compound_if (trimmed_at k (i + 1)) ≡ false
      → least_from (λ core. is_compound_of (trimmed_core k.view core)) (i + 1) (drop i k.cores) ≡ least_from (λ core. is_compound_of (trimmed_core k.view core)) (i + 1 + 1) (drop (i + 1) k.cores)
  compound-next e =
      ap (least_from (λ core. is_compound_of (trimmed_core k.view core)) (i + 1)) dropped
      ∙ next-by (get_or k.cores i None) (sym (ap is_compound_if at) ∙ e)

  pub compound-here : is_compound_if (trimmed_at k (i + 1)) ≡ true
      → least_from (λ core. is_compound_of (trimmed_core k.view core)) (i + 1) (drop i k.cores) ≡ Some (i + 1)
  compound-here e =
      ap (least_from (λ core. is_compound_of (trimmed_core k.view core)) (i + 1)) dropped
      ∙ here-by (get_or k.cores i None) (sym (ap is_compound_if at) ∙ e)
