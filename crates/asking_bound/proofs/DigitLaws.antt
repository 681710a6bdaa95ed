-- Binary digits: no fewer of larger numbers, and one more of twice a number.
use Rattle.std.proofs.Common.{◌≡◌, ℕ, zero, suc, ◌+◌, ◌*◌, ◌/◌, ◌≤◌, ◌<◌, ap, arith, ⊎_elim}
use Rattle.std.proofs.lemmas.Bool.{cases_lt}
use Rattle.std.proofs.lemmas.Int.Digits.{length-digits_of_step}
use Rattle.asking_bound.specs.Questions.{binary_digits}

digits-next : (n : ℕ) → 1 ≤ n → binary_digits n ≡ binary_digits (n / 2) + 1
digits-next n some = length-digits_of_step 2 n (omega arith) some

digits-none : (n : ℕ) → n ≡ 0 → binary_digits n ≡ 0
digits-none n e = ap binary_digits e

digits-within : (fuel m n : ℕ) → n ≤ fuel → m ≤ n → binary_digits m ≤ binary_digits n
digits-within zero m n small le = omega (arith, digits-none m (omega (arith, small, le)))
digits-within (suc fuel) m n small le =
    ⊎_elim
    (λ (none : m < 1). omega (arith, digits-none m (omega (arith, none))))
    (λ (some : 1 ≤ m). omega (arith, digits-next m some, digits-next n (omega (arith, some, le)), digits-within fuel (m / 2) (n / 2) (omega (arith, small)) (omega (arith, le))))
    (cases_lt m 1)

pub digits-more : (m n : ℕ) → m ≤ n → binary_digits m ≤ binary_digits n
digits-more m n le = digits-within n m n (omega arith) le

pub digits-some : (n : ℕ) → 1 ≤ n → 1 ≤ binary_digits n
digits-some n some = omega (arith, digits-next n some)

pub digits-twice : (m n : ℕ) → 1 ≤ m → 2 * m ≤ n → binary_digits m + 1 ≤ binary_digits n
digits-twice m n some twice =
    omega (arith, digits-next n (omega (arith, some, twice)), digits-more m (n / 2) (omega (arith, twice)))
