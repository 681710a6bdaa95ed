-- What follows from a valid answer, and that two true ones never contradict each other.
use Rattle.std.specs.Prelude.{◌≡◌, ◌≤◌, ℕ, List, ℤ, Option, Some, None, IsFalse}
use Rattle.model_meaning.specs.declared.model.Model.{Model}
use Rattle.model_meaning.specs.WellTyped.{WellTyped}
use Rattle.model_meaning.specs.Limits.{InLimits}
use Rattle.model_meaning.specs.Solutions.{IsSolution, is_better}
use Rattle.model_weight.specs.Weight.{weight_of}
use Rattle.model_lower.specs.Weighed.{most_weight}
use Rattle.answer_document.specs.declared.verdict.Bounds.{Bounds}
use Rattle.answer_document.specs.declared.verdict.Verdict.{Verdict}
use Rattle.answer_document.specs.declared.verdict.Verdict.TheVariants.{Satisfiable, Unsatisfiable, Optimum, Unknown}
use Rattle.answer_document.specs.Verdicts.{numbers_in}
use Rattle.answer_document.specs.Claims.{Claims}
use Rattle.answer_document.specs.Valid.{IsValid}

-- what a valid answer says of a model that is taken is true
abbrev pub ClaimLaw : Type 0
ClaimLaw = (model : Model) (text : List ℕ) (v : Verdict) (a : Option (List ℤ))
    → WellTyped model → InLimits model → weight_of model ≤ most_weight → IsValid model text v a
    → Claims model v a

-- where a model has no solution, no true answer has one
abbrev pub NoneContradicts : Type 0
NoneContradicts = (model : Model) (v : Verdict) (a : List ℤ) → Claims model Unsatisfiable None
    → Claims model v (Some a) → ⊥

-- two true optima have the same values
abbrev pub OptimaAgree : Type 0
OptimaAgree = (model : Model) (b c : Bounds) (x y : List ℤ) → Claims model (Optimum b) (Some x)
    → Claims model (Optimum c) (Some y) → numbers_in b ≡ numbers_in c

-- and no best solution of a search that was given up is better than an optimum
abbrev pub OptimumIsBest : Type 0
OptimumIsBest = (model : Model) (b c : Bounds) (n : ℕ) (x y : List ℤ) → Claims model (Optimum b) (Some x)
    → Claims model (Unknown n (Some c)) (Some y)
    → IsFalse (is_better model.goal (numbers_in c) (numbers_in b))
