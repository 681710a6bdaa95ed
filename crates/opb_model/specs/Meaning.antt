-- The assignments of a pseudo-Boolean file's model, by those of the file.
use Rattle.std.specs.Prelude.{◌≡◌, ℤ, Bool, List, ◌++◌, map}
use Rattle.model_meaning.specs.Terms.{as_number}
use Rattle.opb_front.specs.declared.items.Opb.{Opb}
use Rattle.opb_front.specs.Solutions.{Solves, costs}

-- what an assignment of the file is in the model: each truth value as a number, and then the cost, where there is an
-- objective
abbrev pub numbers_of : Opb → List Bool → List ℤ
numbers_of opb b = map as_number b ++ costs opb.objective b

-- numbers are such an assignment, which satisfies the file
pub record SolvesAs (opb : Opb) (a : List ℤ) : Type 0 where
  pub truths : List Bool
  pub solves : Solves opb truths
  pub numbers : a ≡ numbers_of opb truths
