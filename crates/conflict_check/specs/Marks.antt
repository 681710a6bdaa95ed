-- Marks of statements, up to one of a number.
use Rattle.std.specs.Prelude.{◌≡◌, ℕ, ◌+◌, ◌<◌, ◌==◌, nat_lt, Bool, true, false, not}
use Rattle.std.specs.Prelude.{List, [], ◌∷◌, ◌++◌, map, drop, length}
use Rattle.std.specs.Prelude.{Option, Some, None, if◌then◌else◌}
use Rattle.model_meaning.specs.declared.model.Stmt.{Stmt}
use Rattle.model_items.specs.Items.{stmts_from}
use Rattle.model_parts.specs.Only.{is_listed}
use Rattle.model_parts.proofs.Chosen.{Rise}

-- the statements up to the first one whose number is n or more are left out
abbrev pub marks_before : ℕ → List Stmt → List Bool
marks_before n [] = []
marks_before n (s ∷ ss) = if nat_lt s.number n then true ∷ marks_before n ss else []

abbrev pub has_number : ℕ → Option Stmt → Bool
has_number n None = false
has_number n (Some s) = s.number == n

-- whether the first statement has a number
abbrev pub begins_with : ℕ → List Stmt → Bool
begins_with n [] = false
begins_with n (s ∷ ss) = s.number == n

-- behind marks of the first statements, those of the others up to one of a number; or there is none of it
abbrev pub IsMarkedTo : List Stmt → List Bool → ℕ → List Bool → Bool → Type 0
IsMarkedTo ss old n new true = (begins_with n (stmts_from n (drop (length old) ss)) ≡ true)
    × (new ≡ old ++ (marks_before n (drop (length old) ss) ++ false ∷ []))
IsMarkedTo ss old n new false = begins_with n (stmts_from n (drop (length old) ss)) ≡ false

-- each number of statements, or of a list, is below a bound
abbrev pub AreBelow : ℕ → List Stmt → Type 0
AreBelow n [] = Unit {0}
AreBelow n (s ∷ ss) = (s.number < n) × AreBelow n ss

abbrev pub NumbersBelow : ℕ → List ℕ → Type 0
NumbersBelow n [] = Unit {0}
NumbersBelow n (m ∷ ms) = (m < n) × NumbersBelow n ms

-- whether a statement is left out of a part
abbrev pub left_out : List ℕ → Stmt → Bool
left_out conflict s = not (is_listed s.number conflict)

-- The first statements are marked, up to the one that was named last; the others have greater numbers, which ascend.
pub record AreMarked (ss : List Stmt) (conflict : List ℕ) (now : ℕ) (out : List Bool) : Type 0 where
  pub front : List Stmt
  pub rest : List Stmt
  pub parts : ss ≡ front ++ rest
  pub marks : out ≡ map (left_out conflict) front
  pub below : AreBelow (now + 1) front
  pub named : NumbersBelow (now + 1) conflict
  pub rise : Rise (now + 1) rest
