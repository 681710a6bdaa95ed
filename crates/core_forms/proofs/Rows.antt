-- A core in a row of truth values of its variables.
use Rattle.std.proofs.Common.{◌≡◌, ℕ, Bool, map, List, refl, sym, subst, ◌∙◌}
use Rattle.order_ints.specs.Truth.{Valuation, valuation_at}
use Rattle.order_ints.proofs.TruthRows.{row-agrees}
use Rattle.core_forms.specs.declared.form.Core.{Core}
use Rattle.core_forms.specs.Variables.{core_vars, AreAmong}
use Rattle.core_forms.specs.Meaning.{core_truth}
use Rattle.core_forms.proofs.VariableLaws.{core_truth-vars}

-- it is as true as under each valuation with the values of the row
pub core_truth-row : (σ : Valuation) (core : Core) (vars : List ℕ) → AreAmong (core_vars core) vars → core_truth σ core ≡ core_truth (valuation_at vars (map σ vars)) core
core_truth-row σ core vars among =
    core_truth-vars σ (valuation_at vars (map σ vars)) core (λ v c. row-agrees σ vars (map σ vars) refl v (among v c))

pub row-meaning : (σ : Valuation) (core : Core) (vars : List ℕ) (values : List Bool) (b : Bool) → b ≡ core_truth (valuation_at vars values) core → AreAmong (core_vars core) vars → map σ vars ≡ values → b ≡ core_truth σ core
row-meaning σ core vars values b e among is =
    e ∙ subst (λ (bs : List Bool). core_truth (valuation_at vars bs) core ≡ core_truth σ core) is (sym (core_truth-row σ core vars among))
