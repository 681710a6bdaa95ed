-- A model's items in the order of their numbers.
use Rattle.std.specs.Prelude.{ℕ, ◌==◌, nat_lt, List, [], ◌∷◌, ◌++◌, map, if◌then◌else◌}
use Rattle.model_meaning.specs.declared.model.Decl.{Decl}
use Rattle.model_meaning.specs.declared.model.Stmt.{Stmt}
use Rattle.model_meaning.specs.declared.model.Model.{Model}

-- a declaration, a statement, or a `bool2int` that declares its integer
pub data ModelItem : Type 0 where
  Declaration : Decl → ModelItem
  Statement : Stmt → ModelItem
  Definition : Decl → Stmt → ModelItem

-- the statements up to the first one whose number is n or more, and the others
abbrev pub stmts_before : ℕ → List Stmt → List Stmt
stmts_before n [] = []
stmts_before n (s ∷ ss) = if nat_lt s.number n then s ∷ stmts_before n ss else []

abbrev pub stmts_from : ℕ → List Stmt → List Stmt
stmts_from n [] = []
stmts_from n (s ∷ ss) = if nat_lt s.number n then stmts_from n ss else s ∷ ss

-- a declaration with the statement that has its number, where the first of the statements from it on has; and the
-- statements behind both
abbrev pub declared_item : Decl → List Stmt → ModelItem
declared_item d [] = Declaration d
declared_item d (s ∷ ss) = if s.number == d.number then Definition d s else Declaration d

abbrev pub behind_declared : Decl → List Stmt → List Stmt
behind_declared d [] = []
behind_declared d (s ∷ ss) = if s.number == d.number then ss else s ∷ ss

-- before a declaration stand the statements with lesser numbers
abbrev pub items_of : List Decl → List Stmt → List ModelItem
items_of [] ss = map Statement ss
items_of (d ∷ ds) ss =
    map Statement (stmts_before d.number ss)
    ++ (declared_item d (stmts_from d.number ss) ∷ items_of ds (behind_declared d (stmts_from d.number ss)))

abbrev pub items_of_model : Model → List ModelItem
items_of_model model = items_of model.decls model.stmts
