-- How many clauses the stretches of a search have together.
use Rattle.std.proofs.Common.{◌≡◌, ℕ, zero, suc, ◌+◌, ◌-◌, ◌*◌, ◌^◌, ◌≤◌, ◌<◌, refl, ap, sym, arith, ⊎_elim}
use Rattle.std.proofs.lemmas.Bool.{cases_lt}
use Rattle.std.proofs.lemmas.Nat.{pow_pos, pow-add, pow_below}
use Rattle.std.proofs.Math.Nat.{pow-suc}
use Rattle.search_laws.specs.Luby.{luby, luby_sum}
use Rattle.search_laws.specs.Stretches.{stretches_total, AreShort, StretchesFit}
use Rattle.search_laws.proofs.LubyLaws.{luby_sums, luby-last, luby-some}

total-sum : (n : ℕ) → stretches_total n ≡ 64 * luby_sum n
total-sum zero = refl
total-sum (suc n) = omega (arith, total-sum n)

-- each stretch has a unit at least
pub total-grows : (n : ℕ) → 64 * n ≤ stretches_total n
total-grows zero = omega arith
total-grows (suc n) = omega (arith, total-grows n, luby-some (suc n) (omega arith))

sum-more : (n more : ℕ) → luby_sum n ≤ luby_sum (n + more)
sum-more n zero = let e : n + 0 ≡ n = omega arith in omega (arith, ap luby_sum e)
sum-more n (suc more) =
    let e : n + suc more ≡ suc (n + more) = omega arith in omega (arith, ap luby_sum e, sum-more n more)

-- fewer than 2^j clauses in the unit of 64 in each stretch leaves fewer stretches than there are up to the first of 2^j units
few-stretches : (j n : ℕ) → AreShort (64 * 2 ^ j) n → n < 2 ^ suc j - 1
few-stretches j n short =
    let whole = 2 ^ suc j - 1 in
    ⊎_elim
    (λ (few : n < whole). few)
    (λ (many : whole ≤ n).
    absurd (
    omega (
      arith,
      short whole (omega (arith, pow-suc 2 j, pow_pos j)) many,
      luby-last whole j (omega (arith, pow_pos (suc j))),
    )
    ))
    (cases_lt n whole)

long : (j n : ℕ) → AreShort (64 * 2 ^ j) n → stretches_total n ≤ j * (64 * 2 ^ j)
long j n short =
    let few = few-stretches j n short in
    let whole = 2 ^ suc j - 1 in
    let before = whole - 1 in
    let back : n + (before - n) ≡ before = omega arith in
    let next : suc before ≡ whole = omega (arith, pow-suc 2 j, pow_pos j) in
    omega (
      arith,
      total-sum n,
      sum-more n (before - n),
      ap luby_sum back,
      ap luby_sum next,
      ap luby next,
      luby-last whole j (omega (arith, pow_pos (suc j))),
      luby_sums j,
    )

-- where there are fewer than 64 clauses for a stretch there is none
short-none : (bound n : ℕ) → bound ≤ 64 → AreShort bound n → n ≡ 0
short-none bound zero low short = refl
short-none bound (suc n) low short = absurd (omega (arith, short 1 (omega arith) (omega arith), luby-some 1 (omega arith)))

pub stretches_fit : StretchesFit
stretches_fit v n short =
    ⊎_elim
    (λ (small : v < 7).
    let none = short-none (2 ^ v) n (below-seven v small) short in
    omega (arith, ap stretches_total none))
    (λ (large : 7 ≤ v).
    let j = v - 6 in
    let back : 6 + j ≡ v = omega arith in
    let power : 2 ^ v ≡ 64 * 2 ^ j = omega (arith, pow-add 2 6 j, ap (λ (t : ℕ). 2 ^ t) back) in
    let most = long j n (λ k low high. omega (arith, short k low high, power)) in
    let factor : j * (64 * 2 ^ j) ≡ j * 2 ^ v = ap (λ (t : ℕ). j * t) (sym power) in
    let parts : (v + 1) * 2 ^ v ≡ j * 2 ^ v + 7 * 2 ^ v = split v j (2 ^ v) back in
    omega (arith, most, factor, parts))
    (cases_lt v 7)
  where
    below-seven : (v : ℕ) → v < 7 → 2 ^ v ≤ 64
    below-seven v small = ⊎_elim (λ (less : v < 6). omega (arith, pow_below v 6 less)) (λ (six : 6 ≤ v). let e : v ≡ 6 = omega arith in omega (arith, ap (λ (t : ℕ). 2 ^ t) e)) (cases_lt v 6)

    split : (v j p : ℕ) → 6 + j ≡ v → (v + 1) * p ≡ j * p + 7 * p
    split v j p e = omega (arith, ap (λ (t : ℕ). (t + 1) * p) e)
