-- What makes parts those of a core.
use Rattle.std.proofs.Common.{ℕ, ◌+◌, ◌≤◌, arith}
use Rattle.order_ints.specs.Truth.{Valuation, Agree}
use Rattle.core_forms.specs.declared.form.Core.{Core}
use Rattle.core_forms.specs.Place.{CoreBelow}
use Rattle.core_forms.specs.Meaning.{Meets}
use Rattle.core_forms.specs.Cost.{cost_of}
use Rattle.core_forms.specs.Cores.{MeetsAll, costs_of}
use Rattle.core_forms.proofs.Mapped.{core_truth-agree}
use Rattle.core_forms.proofs.CoreLists.{MeetsAll-depends}
use Rattle.part_base.specs.declared.parts.Parts.{Parts}
use Rattle.part_base.specs.PartsFor.{DoFit, ArePartsFor}

-- their four facts: they fit, cost no more, imply the core, and extend each valuation that meets it
pub parts-made : (core : Core) (next : ℕ) (parts : Parts) → CoreBelow next core → DoFit next parts → parts.fresh + costs_of parts.cores ≤ cost_of core → ((σ : Valuation) → MeetsAll σ parts.cores → Meets σ core) → ((σ : Valuation) → Meets σ core → (τ : Valuation) × Agree next σ τ × MeetsAll τ parts.cores) → ArePartsFor core next parts
parts-made core next parts below fit cost implies extends = record {
  meaning = record {
    fewer = omega arith;
    constrains = MeetsAll-depends (next + parts.fresh) parts.cores fit.below;
    depends = depends-below;
    implies = implies;
    extends = extends;
  };
  fit = fit;
  cost = cost;
}
  where
    depends-below : (σ τ : Valuation) → Agree next σ τ → Meets σ core → Meets τ core
    depends-below σ τ same met = let e = core_truth-agree next σ τ core below same in cc
