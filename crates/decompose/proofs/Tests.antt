-- Tests of truth values and numbers: what they tell, and what makes them true.
use Rattle.std.proofs.Common.{◌≡◌, Bool, true, false, not, ◌&&◌, ◌⊎◌, inl, inr, ℤ, ◌<ℤ◌, refl, sym, arith}
use Rattle.std.specs.Prelude.{int_le, int_lt, IsTrue}
use Rattle.std.specs.Bool.{beq}
use Rattle.std.specs.Ordering.{int_eq}
use Rattle.std.proofs.lemmas.Int.{ints}
use Rattle.std.proofs.lemmas.Bool.Decides.{Decides-int_eq}
use Rattle.order_ints.proofs.Comparisons.{int_le-true, int_le-false}
use Rattle.core_forms.proofs.Ascending.{cases_int}

pub and_first : (b c : Bool) → IsTrue (b && c) → IsTrue b
and_first true c h = refl
and_first false c h = h

pub and_second : (b c : Bool) → IsTrue (b && c) → IsTrue c
and_second true c h = h
and_second false c h = absurd (cc)

pub and_made : (b c : Bool) → IsTrue b → IsTrue c → IsTrue (b && c)
and_made true c h k = k
and_made false c h k = h

pub beq_tells : (b c : Bool) → IsTrue (beq b c) → b ≡ c
beq_tells true true h = refl
beq_tells true false h = sym h
beq_tells false true h = h
beq_tells false false h = refl

pub beq_made : (b c : Bool) → b ≡ c → IsTrue (beq b c)
beq_made true true e = refl
beq_made true false e = sym e
beq_made false true e = e
beq_made false false e = refl

pub not_not : (b : Bool) → not (not b) ≡ b
not_not true = refl
not_not false = refl

pub int_eq_tells : (v w : ℤ) → IsTrue (int_eq v w) → v ≡ w
int_eq_tells v w h = (Decides-int_eq v w).0 h

pub int_eq_made : (v w : ℤ) → v ≡ w → IsTrue (int_eq v w)
int_eq_made v w e = (Decides-int_eq v w).1 e

pub int_eq-false : (v w : ℤ) → (v ≡ w → ⊥) → int_eq v w ≡ false
int_eq-false v w n = elim (int_eq v w) as (λ b. int_eq v w ≡ b → b ≡ false) [ true ↦ λ e. absurd (n (int_eq_tells v w e)) | false ↦ λ _. refl ] refl

pub int_lt-true : (v w : ℤ) → v <ℤ w → int_lt v w ≡ true
int_lt-true v w h = grind (arith, ints)

int_lt-false : (v w : ℤ) → w <ℤ v → int_lt v w ≡ false
int_lt-false v w h = grind (arith, ints)

-- how two numbers compare: at most, at least, equal, less
pub by_order : (v w : ℤ) (P : Bool → Bool → Bool → Bool → Type 0)
    → P true false false true → ((x : Bool) → P true true true x) → P false true false false
    → P (int_le v w) (int_le w v) (int_eq v w) (int_lt v w)
by_order v w P less equal greater = by (cases_int v w)
  where
    put : (a b c d a' b' c' d' : Bool) → a ≡ a' → b ≡ b' → c ≡ c' → d ≡ d' → P a' b' c' d' → P a b c d
    put a b c d a' b' c' d' ea eb ec ed p = rw (ea, eb, ec, ed) p

    by : ((v ≡ w) ⊎ ((v <ℤ w) ⊎ (w <ℤ v))) → P (int_le v w) (int_le w v) (int_eq v w) (int_lt v w)
    by (inl e) =
        put (int_le v w) (int_le w v) (int_eq v w) (int_lt v w) true true true (int_lt v w)
        (int_le-true v w (omega (arith, ints, e))) (int_le-true w v (omega (arith, ints, e))) (int_eq_made v w e) refl (equal (int_lt v w))
    by (inr (inl h)) =
        put (int_le v w) (int_le w v) (int_eq v w) (int_lt v w) true false false true
        (int_le-true v w (omega (arith, ints, h))) (int_le-false w v h) (int_eq-false v w (λ e. omega (arith, ints, e, h))) (int_lt-true v w h) less
    by (inr (inr h)) =
        put (int_le v w) (int_le w v) (int_eq v w) (int_lt v w) false true false false
        (int_le-false v w h) (int_le-true w v (omega (arith, ints, h))) (int_eq-false v w (λ e. omega (arith, ints, e, h))) (int_lt-false v w h) greater
