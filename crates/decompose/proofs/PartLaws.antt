-- One part that means what the core means.
use Rattle.std.proofs.Common.{◌≡◌, ℕ, ◌+◌, ◌≤◌, refl, sym, ◌∙◌, arith}
use Rattle.order_ints.specs.Truth.{Valuation}
use Rattle.core_forms.specs.declared.form.Core.{Core}
use Rattle.core_forms.specs.Meaning.{core_truth, Meets}
use Rattle.core_forms.specs.Place.{CoreBelow}
use Rattle.core_forms.specs.WellFormed.{IsWellFormed}
use Rattle.core_forms.specs.Cost.{cost_of}
use Rattle.core_forms.proofs.Places.{CoreBelow-more}
use Rattle.core_forms.proofs.CoreLists.{MeetsAll-one}
use Rattle.part_base.specs.PartsFor.{ArePartsFor}
use Rattle.part_base.proofs.PartLaws.{parts-made}
use Rattle.decompose.specs.LexParts.{alone}

-- it means so both ways
pub alone-met : (core part : Core) (next : ℕ) → CoreBelow next core → IsWellFormed part → CoreBelow next part → cost_of part ≤ cost_of core
    → ((σ : Valuation) → Meets σ part → Meets σ core) → ((σ : Valuation) → Meets σ core → Meets σ part) → ArePartsFor core next (alone part)
alone-met core part next below formed place cheap there back =
    parts-made core next (alone part) below
    (record { formed = (formed, tt); below = (CoreBelow-more next (next + 0) part (omega arith) place, tt) })
    (omega arith)
    (λ σ h. there σ ((MeetsAll-one σ part).0 h))
    (λ σ h. (σ, λ v less. refl, (MeetsAll-one σ part).1 (back σ h)))

-- it is as true
pub alone-made : (core part : Core) (next : ℕ) → CoreBelow next core → IsWellFormed part → CoreBelow next part → cost_of part ≤ cost_of core
    → ((σ : Valuation) → core_truth σ part ≡ core_truth σ core) → ArePartsFor core next (alone part)
alone-made core part next below formed place cheap same =
    alone-met core part next below formed place cheap (λ σ h. sym (same σ) ∙ h) (λ σ h. same σ ∙ h)
