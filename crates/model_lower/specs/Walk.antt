-- The next item of declarations and statements that are left.
use Rattle.std.specs.Prelude.{◌≡◌, List, [], ◌∷◌}
use Rattle.model_meaning.specs.declared.model.Decl.{Decl}
use Rattle.model_meaning.specs.declared.model.Stmt.{Stmt}
use Rattle.model_items.specs.Items.{Declaration, Definition, declared_item, behind_declared, items_of}

-- no statement stands before the first declaration, and there is none where there is no declaration
abbrev pub DeclarationFirst : List Decl → List Stmt → Type 0
DeclarationFirst [] ss = ss ≡ []
DeclarationFirst (d ∷ ds) ss = items_of (d ∷ ds) ss ≡ declared_item d ss ∷ items_of ds (behind_declared d ss)

-- no statement declares the integer of a declaration
abbrev pub IsApart : Decl → List Stmt → Type 0
IsApart d ss = (declared_item d ss ≡ Declaration d) × (behind_declared d ss ≡ ss)

-- a statement, which is the first one, does, and the others are left
abbrev pub Defines : Decl → Stmt → List Stmt → List Stmt → Type 0
Defines d s ss left = (declared_item d ss ≡ Definition d s) × (behind_declared d ss ≡ left)
