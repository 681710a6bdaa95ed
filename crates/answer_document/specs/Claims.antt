-- What an answer says of a model: the verdict with the assignment that it gives.
use Rattle.std.specs.Prelude.{◌≡◌, List, ℤ, Option, Some, None}
use Rattle.model_meaning.specs.declared.model.Model.{Model}
use Rattle.model_meaning.specs.Solutions.{IsSolution, IsBest, objective}
use Rattle.answer_document.specs.declared.verdict.Bounds.{Bounds}
use Rattle.answer_document.specs.declared.verdict.Verdict.{Verdict}
use Rattle.answer_document.specs.declared.verdict.Verdict.TheVariants.{Satisfiable, Unsatisfiable, Optimum, Unknown}
use Rattle.answer_document.specs.Verdicts.{numbers_in}

-- an assignment is a solution, whose objectives have these values
pub record IsSolutionAt (model : Model) (a : List ℤ) (b : Bounds) : Type 0 where
  pub solution : IsSolution model a
  pub objective : objective model.goal a ≡ numbers_in b

-- a best solution, whose objectives have these values
pub record IsOptimum (model : Model) (a : List ℤ) (b : Bounds) : Type 0 where
  pub best : IsBest model a
  pub objective : objective model.goal a ≡ numbers_in b

-- What is claimed. SATISFIABLE: the assignment is a solution. UNSATISFIABLE: there is none. OPTIMUM: the assignment is
-- a best solution, with the stated values of the objectives. UNKNOWN with a best solution: the
-- assignment is a solution with the stated values; without one nothing is claimed. An answer with an assignment where
-- none belongs, or without one where one does, claims what can't be.
abbrev pub Claims : Model → Verdict → Option (List ℤ) → Type 0
Claims model Satisfiable (Some a) = IsSolution model a
Claims model Satisfiable None = ⊥
Claims model Unsatisfiable (Some a) = ⊥
Claims model Unsatisfiable None = (a : List ℤ) → IsSolution model a → ⊥
Claims model (Optimum b) (Some a) = IsOptimum model a b
Claims model (Optimum b) None = ⊥
Claims model (Unknown n (Some b)) (Some a) = IsSolutionAt model a b
Claims model (Unknown n (Some b)) None = ⊥
Claims model (Unknown n None) (Some a) = ⊥
Claims model (Unknown n None) None = Unit {0}
