-- The solutions of a model, and the best ones.
use Rattle.std.specs.Prelude.{ℕ, ℤ, Bool, true, false, List, [], ◌∷◌, Option, Some, None, IsTrue, IsFalse}
use Rattle.std.specs.Prelude.{if◌then◌else◌}
use Rattle.model_meaning.specs.declared.model.Goal.{Goal}
use Rattle.model_meaning.specs.declared.model.Goal.TheVariants.{Satisfy, Minimize, Maximize}
use Rattle.model_meaning.specs.declared.model.Stmt.{Stmt}
use Rattle.model_meaning.specs.declared.model.Model.{Model}
use Rattle.model_meaning.specs.Terms.{value_at}
use Rattle.model_meaning.specs.Lists.{in_order}
use Rattle.model_meaning.specs.Domains.{in_domains}
use Rattle.model_meaning.specs.Holds.{Holds, holds}

-- every statement holds
abbrev pub AllHold : List ℤ → List Stmt → Type 0
AllHold a [] = Unit {0}
AllHold a (s ∷ ss) = Holds a s.what × AllHold a ss

-- an assignment is a solution where it is in the domains and every statement holds
pub record IsSolution (model : Model) (a : List ℤ) : Type 0 where
  pub in_domains : IsTrue (in_domains model.decls a)
  pub holds : AllHold a model.stmts

-- the value of a second objective, where there is one
abbrev pub second_value : Option ℕ → List ℤ → List ℤ
second_value None a = []
second_value (Some place) a = value_at a place ∷ []

-- the value of what is sought, as the list of its objectives' values; it is empty where any solution serves
abbrev pub objective : Goal → List ℤ → List ℤ
objective Satisfy a = []
objective (Minimize place second) a = value_at a place ∷ second_value second a
objective (Maximize place second) a = value_at a place ∷ second_value second a

-- whether the first of two such values is better: at the first place where they differ it is less where the least
-- is sought, and greater where the greatest is
abbrev pub is_better : Goal → List ℤ → List ℤ → Bool
is_better Satisfy v w = false
is_better (Minimize place second) v w = in_order true v w
is_better (Maximize place second) v w = in_order true w v

-- a best solution: no solution has a better value
pub record IsBest (model : Model) (a : List ℤ) : Type 0 where
  pub solution : IsSolution model a
  pub best : (b : List ℤ) → IsSolution model b
      → IsFalse (is_better model.goal (objective model.goal b) (objective model.goal a))

-- the number of the first statement that doesn't hold
abbrev pub first_broken : List ℤ → List Stmt → Option ℕ
first_broken a [] = None
first_broken a (s ∷ ss) = if holds a s.what then first_broken a ss else Some s.number
