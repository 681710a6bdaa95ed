-- Products of saturated numbers.
use Rattle.std.proofs.Common.{◌≡◌, ℕ, ◌*◌, ◌≤◌, min, arith, inl, inr}
use Rattle.std.proofs.Math.Nat.{mul-le-mul}
use Rattle.std.proofs.lemmas.Bool.{cases_lt}

-- the product of two saturated numbers that are at least 1, saturated, is the product's
pub saturated-product : (a b m : ℕ) → 1 ≤ a → 1 ≤ b → 1 ≤ m → min (min a m * min b m) m ≡ min (a * b) m
saturated-product a b m ha hb hm =
    elim (cases_lt m a) [
      | inl over ↦
          let l : m * 1 ≤ a * b = mul-le-mul (omega arith) hb in
          let p : 1 ≤ min b m = omega arith in
          let k : m * 1 ≤ min a m * min b m = mul-le-mul (omega arith) p in
          omega arith
      | inr under ↦ elim (cases_lt m b) [
        | inl over ↦
            let l : 1 * m ≤ a * b = mul-le-mul ha (omega arith) in
            let p : 1 ≤ min a m = omega arith in
            let k : 1 * m ≤ min a m * min b m = mul-le-mul p (omega arith) in
            omega arith
        | inr below ↦
            let p : min a m ≡ a = omega arith in
            let q : min b m ≡ b = omega arith in
            rw (p, q)
      ]
    ]
