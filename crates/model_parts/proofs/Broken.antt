-- The first broken statement, one left aside, among those from a place on.
use Rattle.std.proofs.Common.{◌≡◌, ℕ, zero, suc, ◌+◌, ◌<◌, ℤ, Bool, true, false, List, [], ◌∷◌, drop, length, Option, Some, None, refl, arith, add-one}
use Rattle.std.specs.Prelude.{◌==◌, ◌||◌, slice_get, slice_index_or, IfSome, MatchOption, if◌then◌else◌}
use Rattle.model_meaning.specs.declared.model.Stmt.{Stmt}
use Rattle.model_meaning.specs.Holds.{holds}
use Rattle.model_meaning.specs.Solutions.{first_broken}
use Rattle.model_parts.specs.Only.{all_but}

module _ (a : List ℤ) (n : ℕ) where
  abbrev IsFound : List Stmt → ℕ → Option ℕ → Type 0
  IsFound ss i r = MatchOption r (first_broken a (all_but n (drop i ss)) ≡ first_broken a (all_but n (drop (suc i) ss))) (λ m. first_broken a (all_but n (drop i ss)) ≡ Some m)

  at-first : (s : Stmt) (ss : List Stmt) (aside held : Bool) → (s.number == n) ≡ aside → holds a s.what ≡ held → IsFound (s ∷ ss) zero (if aside || held then None else Some s.number)
  at-first s ss true held e f = rw e refl
  at-first s ss false true e f = rw (e, f) refl
  at-first s ss false false e f = rw (e, f) refl

  found : (ss : List Stmt) (i : ℕ) (d : Stmt) (held : Bool) → i < length ss → IfSome (slice_get ss i) (λ s. held ≡ holds a s.what)
      → IsFound ss i (if ((slice_index_or ss i d).number == n) || held then None else Some (slice_index_or ss i d).number)
  found [] i d held l h = absurd (omega arith)
  found (s ∷ ss) zero d held l h = rw h (at-first s ss (s.number == n) (holds a s.what) refl refl)
  found (s ∷ ss) (suc i) d held l h = found ss i d held (omega arith) h

  pub found-at : (ss : List Stmt) (i own : ℕ) (d : Stmt) (held : Bool) (r : Option ℕ) → i < length ss → IfSome (slice_get ss i) (λ s. held ≡ holds a s.what)
      → own ≡ (slice_index_or ss i d).number → r ≡ (if (own == n) || held then None else Some own)
      → MatchOption r (first_broken a (all_but n (drop i ss)) ≡ first_broken a (all_but n (drop (i + 1) ss))) (λ m. first_broken a (all_but n (drop i ss)) ≡ Some m)
  found-at ss i own d held r l h e f = rw (add-one, f, e) (found ss i d held l h)
