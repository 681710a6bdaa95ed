-- The first statement that doesn't hold.
use Rattle.std.proofs.Common.{◌↔◌, ℕ, zero, suc, ◌<◌, ℤ, Bool, true, false, List, [], ◌∷◌, length, get_or, Option, Some, IsNone, arith, refl}
use Rattle.std.specs.Prelude.{if◌then◌else◌, IfSome, slice_get}
use Rattle.std.specs.Bool.{Decides}
use Rattle.std.proofs.lemmas.Bool.{false≢true}
use Rattle.model_meaning.specs.declared.model.Stmt.{Stmt}
use Rattle.model_meaning.specs.Holds.{holds}
use Rattle.model_meaning.specs.Limits.{WhatInLimit, StmtsInLimit}
use Rattle.model_meaning.specs.Solutions.{AllHold, first_broken}
use Rattle.model_meaning.proofs.TableLaws.{Decides-holds}

none_and : {P Q : Type 0} (b : Bool) (o : Option ℕ) (n : ℕ) → Decides b P → (IsNone o ↔ Q) → IsNone (if b then o else Some n) ↔ (P × Q)
none_and true o n d h = (λ e. (d.0 refl, h.0 e), λ p. h.1 p.1)
none_and false o n d h = (λ e. cc, λ p. absurd (false≢true (d.1 p.0)))

pub first_broken-none : (a : List ℤ) (ss : List Stmt) → IsNone (first_broken a ss) ↔ AllHold a ss
first_broken-none a [] = (λ e. tt, λ e. refl)
first_broken-none a (s ∷ ss) = none_and (holds a s.what) (first_broken a ss) s.number (Decides-holds a s.what) (first_broken-none a ss)

pub StmtsInLimit-get_or : (ss : List Stmt) (i : ℕ) (d : Stmt) → i < length ss → StmtsInLimit ss → WhatInLimit (get_or ss i d).what
StmtsInLimit-get_or [] i d h l = absurd (omega arith)
StmtsInLimit-get_or (s ∷ ss) zero d h l = l.0
StmtsInLimit-get_or (s ∷ ss) (suc i) d h l = StmtsInLimit-get_or ss i d (omega arith) l.1

pub at_place : {X : Type 0} (P : X → Type 0) (xs : List X) (i : ℕ) (d : X) → i < length xs → P (get_or xs i d) → IfSome (slice_get xs i) P
at_place P [] i d h p = absurd (omega arith)
at_place P (x ∷ xs) zero d h p = p
at_place P (x ∷ xs) (suc i) d h p = at_place P xs i d (omega arith) p
