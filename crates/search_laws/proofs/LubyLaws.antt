-- Luby's terms by the digits of their number, and their sums.
use Rattle.std.proofs.Common.{◌≡◌, ℕ, zero, suc, ◌+◌, ◌-◌, ◌*◌, ◌/◌, ◌%◌, ◌^◌, ◌≤◌, ◌<◌, refl, ap, sym, ◌∙◌, arith, ⊎_elim}
use Rattle.std.specs.Prelude.{◌==◌, if◌then◌else◌}
use Rattle.std.proofs.lemmas.Bool.{cases_lt, cases_eq, eq-eqb, ne_eqb, cond-true, cond-false}
use lib.Count.{count_leading_zeros}
use Rattle.std.proofs.lemmas.Nat.{pow_pos, leading_top, one_shl}
use Rattle.std.proofs.Math.Nat.{pow-suc}
use Rattle.std.proofs.lemmas.Int.Digits.{length-digits_of_step}
use Rattle.search_laws.specs.Luby.{binary_digits, luby_within, luby, luby_sum, LubySums}

twice : (v : ℕ) → 2 ^ suc v ≡ 2 ^ v + 2 ^ v
twice v = omega (arith, pow-suc 2 v)

-- a number of d + 1 digits
pub digits-exact : (d n : ℕ) → 2 ^ d ≤ n → n < 2 ^ suc d → binary_digits n ≡ suc d
digits-exact zero n low high =
    let e : n ≡ 1 = omega arith in ap binary_digits e
digits-exact (suc d) n low high =
    let step = length-digits_of_step 2 n (omega arith) (omega (arith, pow_pos (suc d))) in
    let inner = digits-exact d (n / 2) (omega (arith, twice d)) (omega (arith, twice (suc d))) in
    omega (arith, step, inner)

-- between which powers of 2 a number lies
pub power-found : (fuel n : ℕ) → n ≤ fuel → 1 ≤ n → (d : ℕ) × (2 ^ d ≤ n) × (n < 2 ^ suc d)
power-found zero n small some = absurd (omega arith)
power-found (suc fuel) n small some =
    ⊎_elim
    (λ (one : n < 2). (0, omega arith, omega arith))
    (λ (more : 2 ≤ n).
    let half = power-found fuel (n / 2) (omega arith) (omega arith) in
    (suc half.0, omega (arith, half.1, twice half.0), omega (arith, half.2, twice (suc half.0))))
    (cases_lt n 2)

-- a term by the power of 2 below its number
luby-at : (most k d : ℕ) → 2 ^ d ≤ k → k < 2 ^ suc d → luby_within (suc most) k ≡ (if k + 1 == 2 ^ suc d then 2 ^ d else luby_within most (k - (2 ^ d - 1)))
luby-at most k d low high =
    let digits = digits-exact d k low high in
    let before : binary_digits k - 1 ≡ d = omega (arith, digits) in
    ap (λ (t : ℕ). if k + 1 == 2 ^ t then 2 ^ (binary_digits k - 1) else luby_within most (k - (2 ^ (binary_digits k - 1) - 1))) digits
    ∙ ap (λ (t : ℕ). if k + 1 == 2 ^ suc d then 2 ^ t else luby_within most (k - (2 ^ t - 1))) before

luby-whole : (most k d : ℕ) → k + 1 ≡ 2 ^ suc d → luby_within (suc most) k ≡ 2 ^ d
luby-whole most k d whole =
    luby-at most k d (omega (arith, twice d, pow_pos d)) (omega arith)
    ∙ cond-true (k + 1 == 2 ^ suc d) (2 ^ d) (luby_within most (k - (2 ^ d - 1))) (eq-eqb (k + 1) (2 ^ suc d) whole)

luby-part : (most k d : ℕ) → 2 ^ d ≤ k → k + 1 < 2 ^ suc d → luby_within (suc most) k ≡ luby_within most (k - (2 ^ d - 1))
luby-part most k d low high =
    luby-at most k d low (omega arith)
    ∙ cond-false (k + 1 == 2 ^ suc d) (2 ^ d) (luby_within most (k - (2 ^ d - 1))) (ne_eqb (k + 1) (2 ^ suc d) (λ e. omega arith))

-- the power is 2 or more where a number isn't the last of its digits
two-or-more : (k d : ℕ) → 2 ^ d ≤ k → k + 1 < 2 ^ suc d → 2 ≤ 2 ^ d
two-or-more k zero low high = absurd (omega arith)
two-or-more k (suc d) low high = omega (arith, twice d, pow_pos d)

-- a bound on the number of steps that suffices may be any
fuel-free : (m n k : ℕ) → 1 ≤ k → k ≤ m → k ≤ n → luby_within m k ≡ luby_within n k
fuel-free zero n k some low high = absurd (omega arith)
fuel-free (suc m) zero k some low high = absurd (omega arith)
fuel-free (suc m) (suc n) k some low high =
    let power = power-found k k (omega arith) some in
    let d = power.0 in
    ⊎_elim
    (λ (whole : k + 1 ≡ 2 ^ suc d). luby-whole m k d whole ∙ sym (luby-whole n k d whole))
    (λ (part : k + 1 ≡ 2 ^ suc d → ⊥).
    let less : k + 1 < 2 ^ suc d = omega (arith, part, power.2) in
    let two = two-or-more k d power.1 less in
    luby-part m k d power.1 less
    ∙ fuel-free m n (k - (2 ^ d - 1)) (omega (arith, power.1)) (omega (arith, two)) (omega (arith, two))
    ∙ sym (luby-part n k d power.1 less))
    (cases_eq (k + 1) (2 ^ suc d))

luby-less : (k d : ℕ) → 2 ^ d ≤ k → k + 1 < 2 ^ suc d → luby k ≡ luby (k - (2 ^ d - 1))
luby-less zero d low high = absurd (omega (arith, pow_pos d))
luby-less (suc k) d low high =
    let two = two-or-more (suc k) d low high in
    let next = suc k - (2 ^ d - 1) in
    luby-part k (suc k) d low high ∙ fuel-free k next next (omega arith) (omega arith) (omega arith)

pub luby-last : (k d : ℕ) → k + 1 ≡ 2 ^ suc d → luby k ≡ 2 ^ d
luby-last zero d whole = absurd (omega (arith, twice d, pow_pos d))
luby-last (suc k) d whole = luby-whole k (suc k) d whole

-- the terms behind the first 2^(d+1) - 1 are these again
luby-again : (d k : ℕ) → 1 ≤ k → k < 2 ^ suc d → luby (2 ^ suc d - 1 + k) ≡ luby k
luby-again d k some few =
    let n = 2 ^ suc d - 1 + k in
    let e : n - (2 ^ suc d - 1) ≡ k = omega arith in
    luby-less n (suc d) (omega arith) (omega (arith, twice (suc d))) ∙ ap luby e

sum-again : (d k : ℕ) → k < 2 ^ suc d → luby_sum (2 ^ suc d - 1 + k) ≡ luby_sum (2 ^ suc d - 1) + luby_sum k
sum-again d zero few =
    let e : 2 ^ suc d - 1 + 0 ≡ 2 ^ suc d - 1 = omega arith in omega (arith, ap luby_sum e)
sum-again d (suc k) few =
    let whole = 2 ^ suc d - 1 in
    let e : whole + suc k ≡ suc (whole + k) = omega arith in
    omega (arith, ap luby_sum e, ap luby e, sum-again d k (omega arith), luby-again d (suc k) (omega arith) few)

pub luby_sums : LubySums
luby_sums zero = refl
luby_sums (suc j) =
    let whole = 2 ^ suc j - 1 in
    let last : 2 ^ suc (suc j) - 1 ≡ suc (whole + whole) = omega (arith, twice (suc j), pow_pos (suc j)) in
    let sums = luby_sums j in
    omega (
      arith,
      ap luby_sum last,
      sum-again j whole (omega (arith, pow_pos (suc j))),
      luby-last (suc (whole + whole)) (suc j) (omega (arith, twice (suc j), pow_pos (suc j))),
      sums,
      twice j,
      ap (λ (t : ℕ). suc (suc j) * t) (twice j),
    )

-- terms are at least 1, and no greater than their numbers
luby-range : (most k : ℕ) → 1 ≤ k → k ≤ most → (1 ≤ luby_within most k) × (2 * luby_within most k ≤ k + 1)
luby-range zero k some low = absurd (omega arith)
luby-range (suc most) k some low =
    let power = power-found k k (omega arith) some in
    let d = power.0 in
    ⊎_elim
    (λ (whole : k + 1 ≡ 2 ^ suc d).
    let e = luby-whole most k d whole in (omega (arith, e, pow_pos d), omega (arith, e, whole, twice d)))
    (λ (part : k + 1 ≡ 2 ^ suc d → ⊥).
    let less : k + 1 < 2 ^ suc d = omega (arith, part, power.2) in
    let two = two-or-more k d power.1 less in
    let e = luby-part most k d power.1 less in
    let inner = luby-range most (k - (2 ^ d - 1)) (omega (arith, power.1)) (omega (arith, two)) in
    (omega (arith, e, inner.0), omega (arith, e, inner.1)))
    (cases_eq (k + 1) (2 ^ suc d))

pub luby-some : (k : ℕ) → 1 ≤ k → 1 ≤ luby k
luby-some k some = (luby-range k k some (omega arith)).0

pub luby-most : (k : ℕ) → 1 ≤ k → 2 * luby k ≤ k + 1
luby-most k some = (luby-range k k some (omega arith)).1

-- the highest power of 2 in a number, by its digits
pub power-at : (n d : ℕ) → 2 ^ d ≤ n → n < 2 ^ suc d → 2 ^ (binary_digits n - 1) ≡ 2 ^ d
power-at n d low high =
    let e : binary_digits n - 1 ≡ d = omega (arith, digits-exact d n low high) in ap (λ (t : ℕ). 2 ^ t) e

-- the power that a number's digits give is one of which it has d + 1 digits
power-of : (k : ℕ) → 1 ≤ k → (d : ℕ) × (2 ^ (binary_digits k - 1) ≡ 2 ^ d) × (2 ^ d ≤ k) × (k < 2 ^ suc d)
power-of k some =
    let power = power-found k k (omega arith) some in
    (power.0, power-at k power.0 power.1 power.2, power.1, power.2)

pub ends : (k power : ℕ) → 1 ≤ k → power ≡ 2 ^ (binary_digits k - 1) → k - power ≡ power - 1 → luby k ≡ power
ends k power some is whole =
    let p = power-of k some in
    luby-last k p.0 (omega (arith, p.1, p.2, p.3, is, whole, twice p.0, pow_pos p.0)) ∙ sym p.1 ∙ sym is

pub goes : (k power : ℕ) → 1 ≤ k → power ≡ 2 ^ (binary_digits k - 1) → (k - power ≡ power - 1 → ⊥) → luby k ≡ luby (k - (power - 1))
goes k power some is part =
    let p = power-of k some in
    let same : power ≡ 2 ^ p.0 = is ∙ p.1 in
    luby-less k p.0 p.2 (omega (arith, same, p.2, p.3, part, twice p.0, pow_pos p.0))
    ∙ ap (λ (t : ℕ). luby (k - (t - 1))) (sym same)

-- a bit shifted to the place of the highest one of a word
shifted : (n : ℕ) → 1 ≤ n → n < 2 ^ 64 → (d : ℕ) × (1 * 2 ^ (63 - count_leading_zeros 64 n) % 2 ^ 64 ≡ 2 ^ d) × (2 ^ d ≤ n) × (n < 2 ^ suc d)
shifted n some fits =
    let top = leading_top 64 n some fits in
    let place : 63 - count_leading_zeros 64 n ≡ top.0 = omega (arith, top.1) in
    (top.0, ap (λ (t : ℕ). 1 * 2 ^ t % 2 ^ 64) place ∙ one_shl top.0 64 (omega (arith, top.1)), top.2, top.3)

pub record IsHighest (n power : ℕ) : Type 0 where
  pub power_is : power ≡ 2 ^ (binary_digits n - 1)
  pub low : power ≤ n
  pub high : n < 2 * power
  pub some : 1 ≤ power

pub highest : (n : ℕ) → 1 ≤ n → n < 2 ^ 64 → IsHighest n (1 * 2 ^ (63 - count_leading_zeros 64 n) % 2 ^ 64)
highest n some fits =
    let s = shifted n some fits in
    record {
      power_is = s.1 ∙ sym (power-at n s.0 s.2 s.3);
      low = omega (arith, s.1, s.2);
      high = omega (arith, s.1, s.3, twice s.0);
      some = omega (arith, s.1, pow_pos s.0);
    }
