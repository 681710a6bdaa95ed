-- What the part of a divided model is.
use Rattle.std.specs.Prelude.{◌≡◌, ℕ, not, List, map}
use Rattle.model_meaning.specs.declared.model.Stmt.{Stmt}
use Rattle.model_meaning.specs.declared.model.Model.{Model}
use Rattle.model_meaning.specs.WellTyped.{WellTyped}
use Rattle.model_parts.specs.declared.divided.DividedModel.{DividedModel}
use Rattle.model_parts.specs.Only.{is_listed, numbers_of, only}
use Rattle.model_parts.specs.Sides.{IsDivided}

-- it is the model with the statements that it has
abbrev pub PartIsOnly : Type 0
PartIsOnly = (model : Model) (d : DividedModel)
    → WellTyped model → IsDivided model d → d.part ≡ only model (numbers_of d.part.stmts)

-- it is the model with the listed statements, where the others are marked
abbrev pub MarkedIsChosen : Type 0
MarkedIsChosen = (model : Model) (d : DividedModel) (part : List ℕ)
    → d.out.items ≡ map (λ (s : Stmt). not (is_listed s.number part)) model.stmts → IsDivided model d
    → d.part ≡ only model part
