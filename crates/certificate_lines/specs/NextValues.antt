-- Values that lines tell one after another, in the order in which the names were declared.
use Rattle.std.specs.Prelude.{◌≡◌, ◌∷◌, ◌++◌, [], ℕ, List, length, ℤ, Some, slice_get}
use Rattle.model_meaning.specs.declared.model.Decl.{Decl}
use Rattle.model_meaning.specs.declared.model.Model.{Model}
use Rattle.certificate_lines.specs.CertificateLines.{IsValueLine}

-- the line tells the value of the name behind those that have one
pub record IsToldNext (model : Model) (values : List ℤ) (line : List ℕ) (z : ℤ) : Type 0 where
  pub decl : Decl
  pub turn : slice_get model.decls (length values) ≡ Some decl
  pub told : IsValueLine decl line z

-- values with the one behind them that a line tells
pub record IsPushed (model : Model) (values : List ℤ) (line : List ℕ) (more : List ℤ) : Type 0 where
  pub value : ℤ
  pub told : IsToldNext model values line value
  pub behind : more ≡ values ++ value ∷ []
