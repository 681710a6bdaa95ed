-- What an outcome that is a trimmed core means.
use Rattle.std.proofs.Common.{◌≡◌, ◌∙◌, ℕ, List, ap, subst, sym}
use Rattle.std.specs.Prelude.{IfOk}
use Rattle.std.specs.declared.result.Result.{Result}
use Rattle.std.proofs.lemmas.Result.{IfOk-weaker}
use Rattle.order_ints.specs.declared.atom.Atom.{Atom}
use Rattle.order_ints.specs.Truth.{Valuation}
use Rattle.order_ints.specs.Place.{AtomsBelow}
use Rattle.order_ints.specs.View.{MeetsView}
use Rattle.core_forms.specs.declared.form.Core.{Core}
use Rattle.core_forms.specs.Place.{CoreBelow}
use Rattle.core_forms.specs.WellFormed.{IsWellFormed}
use Rattle.core_forms.specs.Meaning.{core_truth}
use Rattle.core_forms.specs.Trimmed.{trimmed_core, IsTrimmed}
use Rattle.core_forms.proofs.TidiedCores.{core_truth-trimmed}
use Rattle.core_forms.proofs.Composed.{IsTrimmed-trimmed}
use Rattle.core_forms.proofs.Kept.{IsWellFormed-trimmed}
use Rattle.core_forms.proofs.Places.{CoreBelow-trimmed}

module _ {E : Type 0} (r : Result Core E) (view : List Atom) (core : Core) where
  abbrev pub IsIt : Core → Type 0
  IsIt t = t ≡ trimmed_core view core

  pub meaning_ok : IfOk r IsIt → IfOk r (λ t. (n : ℕ) → (σ : Valuation) → CoreBelow n core → MeetsView σ view → core_truth σ t ≡ core_truth σ core)
  meaning_ok h =
      IfOk-weaker r IsIt (λ t. (n : ℕ) → (σ : Valuation) → CoreBelow n core → MeetsView σ view → core_truth σ t ≡ core_truth σ core)
      (λ t e n σ below meets. ap (core_truth σ) e ∙ core_truth-trimmed σ view n core below meets) h

  pub form_ok : IsWellFormed core → IfOk r IsIt → IfOk r (λ t. IsWellFormed t)
  form_ok well h = IfOk-weaker r IsIt (λ t. IsWellFormed t) (λ t e. subst (λ (x : Core). IsWellFormed x) (sym e) (IsWellFormed-trimmed view core well)) h

  pub trimmed_ok : IfOk r IsIt → IfOk r (λ t. IsTrimmed t)
  trimmed_ok h = IfOk-weaker r IsIt (λ t. IsTrimmed t) (λ t e. subst (λ (x : Core). IsTrimmed x) (sym e) (IsTrimmed-trimmed view core)) h

  pub place_ok : IfOk r IsIt → IfOk r (λ t. (n : ℕ) → CoreBelow n core → AtomsBelow n view → CoreBelow n t)
  place_ok h =
      IfOk-weaker r IsIt (λ t. (n : ℕ) → CoreBelow n core → AtomsBelow n view → CoreBelow n t)
      (λ t e n below labels. subst (λ (x : Core). CoreBelow n x) (sym e) (CoreBelow-trimmed n view core below labels)) h
