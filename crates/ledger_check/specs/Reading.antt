-- Which line of a document may stand next, what stands behind it, and why a line may not.
use Rattle.std.specs.Prelude.{◌≡◌, ◌⊎◌, List, ℕ, Ok, Err}
use Rattle.model_meaning.specs.declared.model.Model.{Model}
use Rattle.ledger_check.specs.declared.part.Part.TheVariants as part
use Rattle.ledger_check.specs.declared.fault.Why.{Why}
use Rattle.ledger_check.specs.declared.fault.Why.TheVariants.{Shape}
use Rattle.ledger_check.specs.Items.{Item, Standing, Says}
use Rattle.ledger_check.specs.Tests.{taken}

-- a line may stand next where it says what may be said here, and nothing stands against that
pub record IsNext (model : Model) (s : Standing) (line : List ℕ) (t : Standing) : Type 0 where
  pub item : Item
  pub says : Says model s line item
  pub taken : taken model s item ≡ Ok t

-- what it says is tested
pub record IsAgainst (model : Model) (s : Standing) (line : List ℕ) (why : Why) : Type 0 where
  pub item : Item
  pub says : Says model s line item
  pub taken : taken model s item ≡ Err why

-- it says nothing that may be said here
pub record IsNothing (model : Model) (s : Standing) (line : List ℕ) (why : Why) : Type 0 where
  pub nothing : (item : Item) → Says model s line item → ⊥
  pub shape : why ≡ Shape

-- why a line isn't the next: by its form, or else by what is tested of it
abbrev pub IsBecause : Model → Standing → List ℕ → Why → Type 0
IsBecause model s line why = IsNothing model s line why ⊎ IsAgainst model s line why

-- a document may end behind its last line
abbrev pub IsEnd : Standing → Type 0
IsEnd s = s.part ≡ part.End
