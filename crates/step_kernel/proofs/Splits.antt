-- The state after a split, from what was done to its parts.
use Rattle.std.proofs.Common.{◌≡◌, ℕ, zero, suc, ◌+◌, ◌-◌, ◌≤◌, ◌<◌, ◌^◌, ◌==◌, Bool, true, false, List, [], ◌∷◌, ◌++◌, map, length, refl, ap, ◌∙◌, arith, Option, Some, None}
use Rattle.std.specs.Prelude.{slice_index_or, option_map, if◌then◌else◌}
use Rattle.std.proofs.lemmas.Option.{none-some}
use Rattle.std.proofs.lemmas.Bool.Decides.{nat_tests}
use Rattle.std.proofs.lemmas.List.{set-append_left, length-append}
use Rattle.order_ints.specs.declared.atom.Atom.{Atom}
use Rattle.order_ints.specs.Label.{own_labels, with_own_labels}
use Rattle.order_ints.proofs.Labels.{length-own_labels}
use Rattle.core_forms.specs.declared.form.Core.{Core}
use Rattle.core_forms.specs.Trimmed.{trimmed_core}
use Rattle.part_base.specs.declared.parts.Parts.{Parts}
use Rattle.equation_store.specs.Store.{Store}
use Rattle.step_kernel.specs.Kernel.{Kernel, core_at, trimmed_at, IsKernel}
use Rattle.step_kernel.specs.Steps.{without, divided}
use Rattle.step_kernel.specs.Cursor.{kernel_of}
use Rattle.step_kernel.proofs.Started.{same-kernel}

pub divided-from : (k : Kernel) (id : ℕ) (parts : Parts) (old new : Store) (cs ds made : List (Option Core)) (ls : List (List Atom)) (b : Bool) →
    kernel_of old cs ls b ≡ k → new.view ≡ old.view ++ own_labels (length old.view + 1) parts.fresh →
    made ≡ without (cs ++ ds) id → ds ≡ map Some parts.cores → 1 ≤ id → id ≤ length cs → kernel_of new made ls b ≡ divided k id parts
divided-from k id parts old new cs ds made ls b is view cores pending low high =
    let without-parts : made ≡ without cs id ++ map Some parts.cores =
    cores ∙ set-append_left cs ds (id - 1) None (omega (arith, low, high)) ∙ ap (λ (t : List (Option Core)). without cs id ++ t) pending in
    same-kernel new.view (with_own_labels old.view parts.fresh) made (without cs id ++ map Some parts.cores) ls ls b view without-parts refl
    ∙ ap (λ (t : Kernel). divided t id parts) is

pub divided-room : (k : Kernel) (id : ℕ) (parts : Parts) → IsKernel (divided k id parts) → length k.view + parts.fresh ≤ 2 ^ 27
divided-room k id parts is =
    omega (arith, is.small, length-append k.view (own_labels (length k.view + 1) parts.fresh), length-own_labels (length k.view + 1) parts.fresh)

place-bound : (cores : List (Option Core)) (i : ℕ) (core : Core) → slice_index_or cores i None ≡ Some core → i < length cores
place-bound [] i core e = absurd (none-some core e)
place-bound (c ∷ cores) zero core e = omega arith
place-bound (c ∷ cores) (suc i) core e = omega (arith, place-bound cores i core e)

-- a core that stands there has an id of a place
pub there-bounds : (cores : List (Option Core)) (id : ℕ) (core : Core) → core_at cores id ≡ Some core → (1 ≤ id) × (id ≤ length cores)
there-bounds cores id core e = by (id == 0) refl e
  where
    by : (b : Bool) → (id == 0) ≡ b → (if b then None else slice_index_or cores (id - 1) None) ≡ Some core → (1 ≤ id) × (id ≤ length cores)
    by true t e = absurd (none-some core e)
    by false t e =
        let low : 1 ≤ id = grind (arith, nat_tests, t) in
        (low, omega (arith, low, place-bound cores (id - 1) core e))

trimmed-bounds : (k : Kernel) (id : ℕ) (core : Core) (o : Option Core) → core_at k.cores id ≡ o → option_map (trimmed_core k.view) o ≡ Some core → (1 ≤ id) × (id ≤ length k.cores)
trimmed-bounds k id core None at e = absurd (none-some core e)
trimmed-bounds k id core (Some c) at e = there-bounds k.cores id c at

pub at-bounds : (k : Kernel) (id : ℕ) (core : Core) → trimmed_at k id ≡ Some core → (1 ≤ id) × (id ≤ length k.cores)
at-bounds k id core e = trimmed-bounds k id core (core_at k.cores id) refl e
