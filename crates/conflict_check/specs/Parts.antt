-- The part that is to be shown, as a divided model.
use Rattle.std.specs.Prelude.{◌≡◌, Bool, true, List, ◌++◌, map, drop, length}
use Rattle.model_meaning.specs.declared.model.Stmt.{Stmt}
use Rattle.model_meaning.specs.declared.model.Model.{Model}
use Rattle.model_parts.specs.declared.divided.DividedModel.{DividedModel}
use Rattle.model_parts.specs.Sides.{IsDivided}
use Rattle.conflict_text.specs.declared.verdict.CoreVerdict.{CoreVerdict}
use Rattle.conflict_text.specs.declared.verdict.CoreVerdict.TheVariants.{Satisfiable, Core, Unknown}

-- a verdict that is shown of a part
abbrev pub IsOfPart : CoreVerdict → Type 0
IsOfPart Satisfiable = ⊥
IsOfPart (Core k) = Unit {0}
IsOfPart (Unknown n) = Unit {0}

-- a model is divided by marks of its first statements, and the others are left out
pub record IsPartOf (model : Model) (out : List Bool) (d : DividedModel) : Type 0 where
  pub divided : IsDivided model d
  pub marks : d.out.items ≡ out ++ map (λ (s : Stmt). true) (drop (length out) model.stmts)
