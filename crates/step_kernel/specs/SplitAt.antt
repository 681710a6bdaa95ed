-- The parts that a split makes of a pending core.
use Rattle.std.specs.Prelude.{◌≡◌, ℕ, ◌+◌, true, length, Some, Contains}
use Rattle.core_forms.specs.declared.form.Core.{Core}
use Rattle.core_forms.specs.declared.form.Core.TheVariants.{Sum, Lex}
use Rattle.core_forms.specs.Edges.{settled_core, listed_vars, IsStableInside}
use Rattle.core_forms.specs.Stable.{IsStableCore}
use Rattle.core_forms.specs.Variables.{core_vars}
use Rattle.part_base.specs.declared.cut.Cut.{Cut}
use Rattle.part_base.specs.declared.parts.Parts.{Parts}
use Rattle.part_base.specs.Cuts.{IsCut}
use Rattle.step_kernel.specs.Kernel.{Kernel, core_at, trimmed_at}
use Rattle.core_parts.specs.Parts.{parts_at, is_compound_of}

-- parts are those of the pending core with an id, which is compound as the store has it
pub record ArePartsAt (k : Kernel) (id : ℕ) (parts : Parts) : Type 0 where
  pub core : Core
  pub there : trimmed_at k id ≡ Some core
  pub compound : is_compound_of core ≡ true
  pub are : parts ≡ parts_at (length k.view + 1) core

-- the pending core with an id is stable, as it was made
pub record IsStableAt (k : Kernel) (id : ℕ) : Type 0 where
  pub core : Core
  pub there : core_at k.cores id ≡ Some core
  pub stable : IsStableCore k.view core

-- the pending core with an id is stable but for its edge; with its edge as the store has it it is stable, lists no
-- variable that it did not have, is compound, and cut so at its front
pub record IsCutAt (k : Kernel) (id : ℕ) (cut : Cut) : Type 0 where
  pub core : Core
  pub there : core_at k.cores id ≡ Some core
  pub inside : IsStableInside k.view core
  pub stable : IsStableCore k.view (settled_core k.view core)
  pub own : (v : ℕ) → Contains (listed_vars (settled_core k.view core)) v → Contains (core_vars core) v
  pub compound : is_compound_of (settled_core k.view core) ≡ true
  pub is : IsCut (length k.view + 1) (settled_core k.view core)
      (parts_at (length k.view + 1) (settled_core k.view core)) cut

-- the greatest variable that what is left of a core that is cut may have inside, beside those that the core had there:
-- a sum's fresh integer is its last member, and an order of words has those of its parent
abbrev pub most_inside : ℕ → ℕ → Core → ℕ
most_inside vars fresh (Sum ints k) = vars
most_inside vars fresh (Lex r strict front back) = 0
most_inside vars fresh core = vars + fresh
