-- A core whose edge was settled, and that is lent as it stands.
use Rattle.std.proofs.Common.{◌≡◌, ℕ, ◌-◌, Bool, false, get_or, set, sym, ap, ◌∙◌, subst, arith, Some, None}
use Rattle.std.specs.Prelude.{◌==◌, option_map, if◌then◌else◌}
use Rattle.std.proofs.lemmas.Bool.Decides.{nat_tests}
use Rattle.std.proofs.lemmas.List.{get_or-set_same}
use Rattle.core_forms.specs.declared.edges.Edge.{Edge}
use Rattle.core_forms.specs.declared.edges.Known.TheVariants.{ButLast}
use Rattle.core_forms.specs.declared.form.Core.{Core}
use Rattle.core_forms.specs.Edges.{settled_core, IsKnown}
use Rattle.core_forms.specs.Trimmed.{trimmed_core}
use Rattle.core_forms.specs.WellFormed.{IsWellFormed}
use Rattle.core_forms.proofs.EdgeLaws.{settled-trimmed, settled-stable, inside-known}
use Rattle.step_kernel.specs.Kernel.{Kernel, core_at, trimmed_at, IsKernel}
use Rattle.step_kernel.specs.Settled.{IsSettled}
use Rattle.step_kernel.proofs.Splits.{there-bounds}
use Rattle.step_kernel.proofs.There.{there-formed}
use Rattle.fixpoint_queue.proofs.Stood.{some-of}

module _ (k now : Kernel) (id : ℕ) (edge : Edge) (s : IsSettled k now id edge) where
  -- it stands in the place of the core as it was made
  settled-at : core_at now.cores id ≡ Some (settled_core k.view s.core)
  settled-at =
      let b = there-bounds k.cores id s.core s.there in
      let no : (id == 0) ≡ false = grind (arith, nat_tests, b.0) in
      ap (λ (t : Kernel). core_at t.cores id) s.is
      ∙ ap (λ (t : Bool). if t then None else get_or (set k.cores (id - 1) (Some (settled_core k.view s.core))) (id - 1) None) no
      ∙ get_or-set_same k.cores (id - 1) (Some (settled_core k.view s.core)) None (omega (arith, b))

  module _ (core : Core) (at : core_at now.cores id ≡ Some core) where
    same : settled_core k.view s.core ≡ core
    same = some-of (settled_core k.view s.core) core (sym settled-at ∙ at)

    -- the store had it so before
    pub lent-there : trimmed_at k id ≡ Some core
    lent-there =
        ap (option_map (trimmed_core k.view)) s.there
        ∙ ap (λ (c : Core). Some c) (sym (settled-trimmed k.view s.core s.inside))
        ∙ ap (λ (c : Core). Some c) same

    pub lent-formed : IsKernel k → IsWellFormed core
    lent-formed is = there-formed k id core is lent-there

    pub lent-known : IsKnown ButLast core
    lent-known = subst (IsKnown ButLast) same (inside-known k.view (settled_core k.view s.core) (settled-stable k.view s.core s.inside))
