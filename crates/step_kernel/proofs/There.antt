-- A pending core as the store has it, and what a step at it asks.
use Rattle.std.proofs.Common.{◌≡◌, ℕ, ◌+◌, ◌≤◌, ◌^◌, true, length, refl, ap, ◌∙◌, subst, arith, Option, Some, None}
use Rattle.std.specs.Prelude.{option_map}
use Rattle.std.proofs.lemmas.Option.{none-some}
use Rattle.order_ints.specs.Label.{IsLabel}
use Rattle.order_ints.proofs.Labels.{labels_below}
use Rattle.core_forms.specs.declared.equation.Equation.{Equation}
use Rattle.core_forms.specs.declared.form.Core.{Core}
use Rattle.core_forms.specs.Basic.{is_basic_of}
use Rattle.core_forms.specs.Cost.{cost_of}
use Rattle.core_forms.specs.Place.{CoreBelow}
use Rattle.core_forms.specs.Trimmed.{trimmed_core}
use Rattle.core_forms.specs.WellFormed.{IsWellFormed}
use Rattle.core_forms.proofs.Kept.{IsWellFormed-trimmed}
use Rattle.core_forms.proofs.Places.{CoreBelow-trimmed}
use Rattle.step_kernel.specs.Kernel.{Kernel, core_at, trimmed_at, IsKernel}
use Rattle.core_rules.specs.Instances.{is_instance_at}
use Rattle.core_parts.specs.Parts.{parts_at, is_compound_of}
use Rattle.step_kernel.specs.Steps.{equated, divided, encoded}
use Rattle.step_kernel.proofs.Holes.{below-there, formed-there, costs-there}
use Rattle.core_rules.proofs.InstanceLaws.{instance-labels}
use Rattle.step_kernel.proofs.Equated.{equated-kernel}
use Rattle.step_kernel.proofs.Divided.{divided-kernel}
use Rattle.step_kernel.proofs.Encoded.{encoded-kernel}
use Rattle.step_kernel.proofs.StepLaws.{parts-there}

-- the core as it was made
pub record IsThere (k : Kernel) (id : ℕ) (trimmed : Core) : Type 0 where
  pub core : Core
  pub at : core_at k.cores id ≡ Some core
  pub is : trimmed_core k.view core ≡ trimmed

module _ (k : Kernel) (id : ℕ) (t : Core) where
  made-by : (o : Option Core) → core_at k.cores id ≡ o → option_map (trimmed_core k.view) o ≡ Some t → IsThere k id t
  made-by None at e = absurd (none-some t e)
  made-by (Some core) at e = record { core = core; at = at; is = some-of (trimmed_core k.view core) t e }
    where
      some-of : (x y : Core) → ◌≡◌ {A = Option Core} (Some x) (Some y) → x ≡ y
      some-of x y h = cc

  pub is-there : trimmed_at k id ≡ Some t → IsThere k id t
  is-there e = made-by (core_at k.cores id) refl e

  module _ (is : IsKernel k) (there : trimmed_at k id ≡ Some t) where
    pub there-formed : IsWellFormed t
    there-formed =
        let r = is-there there in
        subst IsWellFormed r.is (IsWellFormed-trimmed k.view r.core (formed-there k.cores id r.core r.at is.formed).0)

    pub there-below : CoreBelow (length k.view + 1) t
    there-below =
        let r = is-there there in
        subst (CoreBelow (length k.view + 1)) r.is
        (CoreBelow-trimmed (length k.view + 1) k.view r.core (below-there k.cores id r.core r.at (length k.view + 1) is.below).0 (labels_below k.view is.labelled))

    pub there-room : length k.view + 1 + cost_of t ≤ 2 ^ 27
    there-room =
        let r = is-there there in
        omega (arith, costs-there k.cores id r.core r.at k.view, ap cost_of r.is, is.small)

    pub there-labels : (e : Equation) → is_instance_at t e ≡ true → IsLabel k.view e.a × IsLabel k.view e.b
    there-labels e instance =
        let r = is-there there in
        instance-labels k.view r.core e is.labelled (below-there k.cores id r.core r.at (length k.view + 1) is.below).0
        (ap (λ (core : Core). is_instance_at core e) r.is ∙ instance)

    pub there-equated : (e : Equation) → is_instance_at t e ≡ true → IsKernel (equated k e)
    there-equated e instance =
        let r = is-there there in
        equated-kernel k is id e r.core r.at (ap (λ (core : Core). is_instance_at core e) r.is ∙ instance)

    pub there-divided : is_compound_of t ≡ true → IsKernel (divided k id (parts_at (length k.view + 1) t))
    there-divided compound =
        let r = is-there there in
        subst (λ (core : Core). IsKernel (divided k id (parts_at (length k.view + 1) core))) r.is
        (divided-kernel k is id r.core r.at (parts_at (length k.view + 1) (trimmed_core k.view r.core))
        (parts-there k is id r.core r.at (ap is_compound_of r.is ∙ compound)))

    pub there-encoded : is_basic_of t ≡ true → IsKernel (encoded k id t)
    there-encoded basic =
        let r = is-there there in
        subst (λ (core : Core). IsKernel (encoded k id core)) r.is (encoded-kernel k is id r.core r.at (ap is_basic_of r.is ∙ basic))
