-- The least marked id is that of the least core that passes, where the marks tell which do.
use Rattle.std.proofs.Common.{◌≡◌, ℕ, zero, suc, ◌+◌, ◌-◌, ◌==◌, Bool, false, List, [], ◌∷◌, get_or, refl, sym, ap, ◌∙◌, arith, Option, Some, None}
use Rattle.std.specs.Prelude.{option_map, if◌then◌else◌}
use Rattle.std.proofs.lemmas.Bool.Decides.{nat_tests}
use Rattle.core_forms.specs.declared.form.Core.{Core}
use Rattle.core_forms.specs.Trimmed.{trimmed_core}
use Rattle.step_kernel.specs.Kernel.{Kernel, trimmed_at}
use Rattle.core_parts.specs.Parts.{is_compound_of}
use Rattle.step_kernel.specs.Least.{least_from, is_compound_if, least_compound_of}
use Rattle.step_kernel.proofs.LeastCompound.{core_at-next}
use Rattle.fixpoint_queue.specs.Marks.{mark_of, least_marked}

abbrev passes : (Core → Bool) → Option Core → Bool
passes test None = false
passes test (Some core) = test core

least-marks : (test : Core → Bool) (id : ℕ) (marks : List Bool) (cores : List (Option Core)) → ((i : ℕ) → get_or marks i false ≡ passes test (get_or cores i None)) → least_marked id marks ≡ least_from test id cores
least-marks test id [] [] h = refl
least-marks test id [] (None ∷ cores) h = least-marks test (id + 1) [] cores (λ i. h (suc i))
least-marks test id [] (Some core ∷ cores) h =
    least-marks test (id + 1) [] cores (λ i. h (suc i)) ∙ ap (λ (t : Bool). if t then Some id else least_from test (id + 1) cores) (h zero)
least-marks test id (m ∷ marks) [] h =
    ap (λ (t : Bool). if t then Some id else least_marked (id + 1) marks) (h zero) ∙ least-marks test (id + 1) marks [] (λ i. h (suc i))
least-marks test id (m ∷ marks) (None ∷ cores) h =
    ap (λ (t : Bool). if t then Some id else least_marked (id + 1) marks) (h zero) ∙ least-marks test (id + 1) marks cores (λ i. h (suc i))
least-marks test id (m ∷ marks) (Some core ∷ cores) h =
    ap (λ (t : Bool). if t then Some id else least_marked (id + 1) marks) (h zero)
    ∙ ap (λ (o : Option ℕ). if test core then Some id else o) (least-marks test (id + 1) marks cores (λ i. h (suc i)))

pub mark_of-next : (marks : List Bool) (i : ℕ) → mark_of marks (i + 1) ≡ get_or marks i false
mark_of-next marks i =
    let no : (i + 1 == 0) ≡ false = grind (arith, nat_tests) in
    let back : i + 1 - 1 ≡ i = omega arith in
    ap (λ (t : Bool). if t then false else get_or marks (i + 1 - 1) false) no ∙ ap (λ (j : ℕ). get_or marks j false) back

pub least-marked : (k : Kernel) (marks : List Bool) → ((id : ℕ) → mark_of marks id ≡ is_compound_if (trimmed_at k id)) → least_marked 1 marks ≡ least_compound_of k
least-marked k marks h = least-marks (λ core. is_compound_of (trimmed_core k.view core)) 1 marks k.cores (λ i. sym (mark_of-next marks i) ∙ h (i + 1) ∙ ap (λ (o : Option Core). is_compound_if (option_map (trimmed_core k.view) o)) (core_at-next k.cores i) ∙ through (get_or k.cores i None))
  where
    through : (o : Option Core) → is_compound_if (option_map (trimmed_core k.view) o) ≡ passes (λ core. is_compound_of (trimmed_core k.view core)) o
    through None = refl
    through (Some core) = refl
