-- Costs by lengths in one step: parity and at most one.
use Rattle.std.proofs.Common.{◌≡◌, ℕ, ◌+◌, ◌*◌, ◌-◌, ◌/◌, ◌%◌, ◌≤◌, zero, suc, refl, ap, ◌∙◌, arith}
use Rattle.core_cost.specs.ListForms.{cost_of_parity, cost_of_amo}

parity_from_three : (k : ℕ) → cost_of_parity (suc (suc (suc k))) ≡ 12 + 13 * k
parity_from_three zero = refl
parity_from_three (suc k) = omega (arith, parity_from_three k)

-- three members and more
pub parity_in_one : (n : ℕ) → 3 ≤ n → cost_of_parity n ≡ 12 + 13 * (n - 3)
parity_in_one n h =
    let e : n ≡ suc (suc (suc (n - 3))) = omega arith in
    ap cost_of_parity e ∙ parity_from_three (n - 3)

double : ℕ → ℕ
double zero = zero
double (suc k) = suc (suc (double k))

double_lem : (k : ℕ) → double k ≡ 2 * k
unfolding double
double_lem zero = refl
double_lem (suc k) = omega (arith, double_lem k)

amo_odd : (k : ℕ) → cost_of_amo (suc (suc (suc (double k)))) ≡ 6 + 13 * k
unfolding double
amo_odd zero = refl
amo_odd (suc k) = omega (arith, amo_odd k)

amo_even : (k : ℕ) → cost_of_amo (suc (suc (suc (suc (double k))))) ≡ 12 + 13 * k
unfolding double
amo_even zero = refl
amo_even (suc k) = omega (arith, amo_even k)

-- an even number of members from four on
pub amo_in_one_even : (n : ℕ) → 3 ≤ n → n % 2 ≡ 0 → cost_of_amo n ≡ 12 + 13 * (n / 2 - 2)
amo_in_one_even n h even =
    let k = n / 2 - 2 in
    let e : n ≡ suc (suc (suc (suc (double (n / 2 - 2))))) = omega (arith, double_lem (n / 2 - 2)) in
    ap cost_of_amo e ∙ amo_even (n / 2 - 2)

-- an odd number of members from three on
pub amo_in_one_odd : (n : ℕ) → 3 ≤ n → n % 2 ≡ 1 → cost_of_amo n ≡ 6 + 13 * (n / 2 - 1)
amo_in_one_odd n h odd =
    let e : n ≡ suc (suc (suc (double (n / 2 - 1)))) = omega (arith, double_lem (n / 2 - 1)) in
    ap cost_of_amo e ∙ amo_odd (n / 2 - 1)
