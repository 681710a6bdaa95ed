-- Chosen statements before and from a number on, among statements whose numbers ascend.
use Rattle.std.proofs.Common.{◌≡◌, ℕ, ◌+◌, ◌≤◌, Bool, true, false, List, [], ◌∷◌, refl, ap, arith}
use Rattle.std.specs.Prelude.{nat_lt, if◌then◌else◌}
use Rattle.model_meaning.specs.declared.model.Decl.{Decl}
use Rattle.model_meaning.specs.declared.model.Stmt.{Stmt}
use Rattle.model_meaning.specs.WellTyped.{StmtsFit}
use Rattle.model_items.specs.Items.{stmts_before, stmts_from}
use Rattle.model_parts.specs.Only.{is_listed, chosen}

-- numbers ascend from n on
abbrev pub Rise : ℕ → List Stmt → Type 0
Rise n [] = Unit {0}
Rise n (s ∷ ss) = (n ≤ s.number) × Rise (s.number + 1) ss

pub fit-rise : (ds : List Decl) (n : ℕ) (ss : List Stmt) → StmtsFit ds n ss → Rise n ss
fit-rise ds n [] h = tt
fit-rise ds n (s ∷ ss) h = (h.0, fit-rise ds (s.number + 1) ss h.1.1)

pub rise-less : (m n : ℕ) (ss : List Stmt) → n ≤ m → Rise m ss → Rise n ss
rise-less m n [] l h = tt
rise-less m n (s ∷ ss) l h = let k : m ≤ s.number = h.0 in (omega arith, h.1)

not-before : (x n : ℕ) → n ≤ x → nat_lt x n ≡ false
not-before x n l = grind arith

pub chosen-rise : (part : List ℕ) (n : ℕ) (ss : List Stmt) → Rise n ss → Rise n (chosen part ss)
chosen-rise part n [] h = tt
chosen-rise part n (s ∷ ss) h = by_test (is_listed s.number part) (chosen-rise part (s.number + 1) ss h.1)
  where
    by_test : (b : Bool) → Rise (s.number + 1) (chosen part ss) → Rise n (if b then s ∷ chosen part ss else chosen part ss)
    by_test true k = (h.0, k)
    by_test false k = let l : n ≤ s.number = h.0 in rise-less (s.number + 1) n (chosen part ss) (omega arith) k

pub rise-from : (n : ℕ) (ss : List Stmt) → Rise n ss → stmts_from n ss ≡ ss
rise-from n [] h = refl
rise-from n (s ∷ ss) h = rw (not-before s.number n h.0) refl

pub rise-before : (n : ℕ) (ss : List Stmt) → Rise n ss → stmts_before n ss ≡ []
rise-before n [] h = refl
rise-before n (s ∷ ss) h = rw (not-before s.number n h.0) refl

-- those from n on ascend from n on
pub from-rises : (m n : ℕ) (ss : List Stmt) → Rise m ss → Rise n (stmts_from n ss)
from-rises m n [] h = tt
from-rises m n (s ∷ ss) h = by_test (nat_lt s.number n) refl (from-rises (s.number + 1) n ss h.1)
  where
    at-least : (x n : ℕ) → nat_lt x n ≡ false → n ≤ x
    at-least x n e = grind arith

    by_test : (b : Bool) → nat_lt s.number n ≡ b → Rise n (stmts_from n ss) → Rise n (if b then stmts_from n ss else s ∷ ss)
    by_test true e k = k
    by_test false e k = (at-least s.number n e, h.1)

pub chosen-from : (part : List ℕ) (m n : ℕ) (ss : List Stmt) → Rise m ss → stmts_from n (chosen part ss) ≡ chosen part (stmts_from n ss)
chosen-from part m n [] h = refl
chosen-from part m n (s ∷ ss) h = by_tests (is_listed s.number part) (nat_lt s.number n) refl refl (chosen-from part (s.number + 1) n ss h.1)
  where
    at-least : (x n : ℕ) → nat_lt x n ≡ false → n ≤ x
    at-least x n e = grind arith

    behind : nat_lt s.number n ≡ false → Rise n (chosen part ss)
    behind f =
        let l : n ≤ s.number = at-least s.number n f in
        rise-less (s.number + 1) n (chosen part ss) (omega arith) (chosen-rise part (s.number + 1) ss h.1)

    by_tests : (b t : Bool) → is_listed s.number part ≡ b → nat_lt s.number n ≡ t → stmts_from n (chosen part ss) ≡ chosen part (stmts_from n ss)
        → stmts_from n (if b then s ∷ chosen part ss else chosen part ss) ≡ chosen part (if t then stmts_from n ss else s ∷ ss)
    by_tests true true e f k = rw f k
    by_tests false true e f k = k
    by_tests true false e f k = rw (f, e) refl
    by_tests false false e f k = rw e (rise-from n (chosen part ss) (behind f))

pub chosen-before : (part : List ℕ) (m n : ℕ) (ss : List Stmt) → Rise m ss → stmts_before n (chosen part ss) ≡ chosen part (stmts_before n ss)
chosen-before part m n [] h = refl
chosen-before part m n (s ∷ ss) h = by_tests (is_listed s.number part) (nat_lt s.number n) refl refl (chosen-before part (s.number + 1) n ss h.1)
  where
    at-least : (x n : ℕ) → nat_lt x n ≡ false → n ≤ x
    at-least x n e = grind arith

    behind : nat_lt s.number n ≡ false → Rise n (chosen part ss)
    behind f =
        let l : n ≤ s.number = at-least s.number n f in
        rise-less (s.number + 1) n (chosen part ss) (omega arith) (chosen-rise part (s.number + 1) ss h.1)

    by_tests : (b t : Bool) → is_listed s.number part ≡ b → nat_lt s.number n ≡ t → stmts_before n (chosen part ss) ≡ chosen part (stmts_before n ss)
        → stmts_before n (if b then s ∷ chosen part ss else chosen part ss) ≡ chosen part (if t then s ∷ stmts_before n ss else [])
    by_tests true true e f k = rw (f, e) (ap (λ (ts : List Stmt). s ∷ ts) k)
    by_tests false true e f k = rw e k
    by_tests true false e f k = rw f refl
    by_tests false false e f k = rise-before n (chosen part ss) (behind f)
