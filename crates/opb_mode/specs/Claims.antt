-- What an answer says of a pseudo-Boolean file, in the file's own words: sums of the coefficients of true literals.
use Rattle.std.specs.Prelude.{◌≡◌, ℤ, ◌≤ℤ◌, Bool, List, [], ◌∷◌, Option, Some, None}
use Rattle.answer_document.specs.declared.verdict.Bounds.{Bounds}
use Rattle.answer_document.specs.declared.verdict.Verdict.{Verdict}
use Rattle.answer_document.specs.declared.verdict.Verdict.TheVariants.{Satisfiable, Unsatisfiable, Optimum, Unknown}
use Rattle.opb_front.specs.declared.items.Opb.{Opb}
use Rattle.opb_front.specs.Solutions.{Solves, costs}
use Rattle.opb_model.specs.Meaning.{SolvesAs}

-- the numbers are an assignment that satisfies the file, and its cost is the stated number
pub record SolvesAt (opb : Opb) (a : List ℤ) (stated : Bounds) : Type 0 where
  pub assignment : SolvesAs opb a
  pub cost : costs opb.objective assignment.truths ≡ stated.first ∷ []

-- and no assignment that satisfies the file costs less
pub record IsLeast (opb : Opb) (a : List ℤ) (stated : Bounds) : Type 0 where
  pub solves : SolvesAt opb a stated
  pub least : (b : List Bool) (cost : ℤ) → Solves opb b → costs opb.objective b ≡ cost ∷ []
      → stated.first ≤ℤ cost

-- What is claimed. SATISFIABLE: the assignment satisfies the file. UNSATISFIABLE: none does. OPTIMUM: the assignment
-- satisfies the file at the stated cost, and none costs less. UNKNOWN with a best solution: the assignment satisfies
-- the file at the stated cost.
abbrev pub FileClaims : Opb → Verdict → Option (List ℤ) → Type 0
FileClaims opb Satisfiable (Some a) = SolvesAs opb a
FileClaims opb Unsatisfiable None = (b : List Bool) → Solves opb b → ⊥
FileClaims opb (Optimum stated) (Some a) = IsLeast opb a stated
FileClaims opb (Unknown n (Some stated)) (Some a) = SolvesAt opb a stated
FileClaims opb (Unknown n None) None = Unit {0}
FileClaims opb v a = ⊥
