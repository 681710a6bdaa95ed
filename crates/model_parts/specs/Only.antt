-- The model with a part of its statements, which is a list of their numbers.
use Rattle.std.specs.Prelude.{ℕ, ◌==◌, Bool, false, ◌||◌, List, [], ◌∷◌, map, if◌then◌else◌}
use Rattle.model_meaning.specs.declared.model.Goal.TheVariants.{Satisfy}
use Rattle.model_meaning.specs.declared.model.Stmt.{Stmt}
use Rattle.model_meaning.specs.declared.model.Model.{Model}

-- whether a number is one of a list
abbrev pub is_listed : ℕ → List ℕ → Bool
is_listed n [] = false
is_listed n (m ∷ ms) = (n == m) || is_listed n ms

-- the numbers of statements
abbrev pub numbers_of : List Stmt → List ℕ
numbers_of ss = map (λ (s : Stmt). s.number) ss

-- the statements whose numbers are listed
abbrev pub chosen : List ℕ → List Stmt → List Stmt
chosen part [] = []
chosen part (s ∷ ss) = if is_listed s.number part then s ∷ chosen part ss else chosen part ss

-- The statements outside of the part are left out, and any solution serves. The declarations stay with their names,
-- numbers and domains, so a `bool2int` that declares its integer, and is left out, leaves the declaration of an
-- integer from 0 to 1.
abbrev pub only : Model → List ℕ → Model
only model part = record { decls = model.decls; stmts = chosen part model.stmts; goal = Satisfy }

-- a part without the statement of a number
abbrev pub others : ℕ → List ℕ → List ℕ
others n [] = []
others n (m ∷ ms) = if n == m then others n ms else m ∷ others n ms

-- statements but that of a number
abbrev pub all_but : ℕ → List Stmt → List Stmt
all_but n [] = []
all_but n (s ∷ ss) = if s.number == n then all_but n ss else s ∷ all_but n ss
