-- Statements that are divided by marks, one for each place: those that are marked are left out, the others are kept.
use Rattle.std.specs.Prelude.{◌≡◌, Bool, true, false, List, [], ◌∷◌, ◌++◌}
use Rattle.model_meaning.specs.declared.model.Goal.TheVariants.{Satisfy}
use Rattle.model_meaning.specs.declared.model.Stmt.{Stmt}
use Rattle.model_meaning.specs.declared.model.Model.{Model}
use Rattle.model_parts.specs.declared.divided.DividedModel.{DividedModel}

-- those that are kept, and those that are left out; where no mark is left, the rest is kept
abbrev pub kept_of : List Bool → List Stmt → List Stmt
kept_of [] ss = ss
kept_of (m ∷ ms) [] = []
kept_of (true ∷ ms) (s ∷ ss) = kept_of ms ss
kept_of (false ∷ ms) (s ∷ ss) = s ∷ kept_of ms ss

abbrev pub left_of : List Bool → List Stmt → List Stmt
left_of [] ss = []
left_of (m ∷ ms) [] = []
left_of (true ∷ ms) (s ∷ ss) = s ∷ left_of ms ss
left_of (false ∷ ms) (s ∷ ss) = left_of ms ss

-- both put together again
abbrev pub woven : List Bool → List Stmt → List Stmt → List Stmt
woven [] ks ls = ks
woven (true ∷ ms) ks [] = woven ms ks []
woven (true ∷ ms) ks (l ∷ ls) = l ∷ woven ms ks ls
woven (false ∷ ms) [] ls = woven ms [] ls
woven (false ∷ ms) (k ∷ ks) ls = k ∷ woven ms ks ls

-- the first statement, where there is one, has left a list and come behind another
abbrev pub IsNextMoved : List Stmt → List Stmt → List Stmt → List Stmt → Type 0
IsNextMoved to [] now left = (now ≡ to) × (left ≡ [])
IsNextMoved to (s ∷ ss) now left = (now ≡ to ++ s ∷ []) × (left ≡ ss)

-- and it comes to the side of a mark
abbrev pub IsSided : Bool → (kept left rest kept_now left_now rest_now : List Stmt) → Type 0
IsSided true ks ls ss ks_now ls_now ss_now = (ks_now ≡ ks) × IsNextMoved ls ss ls_now ss_now
IsSided false ks ls ss ks_now ls_now ss_now = (ls_now ≡ ls) × IsNextMoved ks ss ks_now ss_now

-- A model is divided: the part has its declarations and the statements that are kept, and any solution serves.
pub record IsDivided (model : Model) (d : DividedModel) : Type 0 where
  pub decls : d.part.decls ≡ model.decls
  pub goal : d.part.goal ≡ Satisfy
  pub kept : d.part.stmts ≡ kept_of d.out.items model.stmts
  pub left : d.left.items ≡ left_of d.out.items model.stmts

-- its statements are put on two sides anew by other marks
pub record IsMoved (old : DividedModel) (marks : List Bool) (d : DividedModel) : Type 0 where
  pub out : d.out.items ≡ marks
  pub decls : d.part.decls ≡ old.part.decls
  pub goal : d.part.goal ≡ old.part.goal
  pub kept : d.part.stmts ≡ kept_of marks (woven old.out.items old.part.stmts old.left.items)
  pub left : d.left.items ≡ left_of marks (woven old.out.items old.part.stmts old.left.items)
