-- Laws of a valuation with other truth values for fresh variables.
use Rattle.std.proofs.Common.{◌≡◌, ℕ, ◌+◌, ◌-◌, ◌<◌, ◌≤◌, Bool, true, false, cond, sym, ap, ◌∙◌, arith}
use Rattle.std.specs.Prelude.{nat_lt}
use Rattle.std.proofs.lemmas.Bool.Decides.{nat_tests}
use Rattle.order_ints.specs.Label.{variable}
use Rattle.order_ints.specs.Truth.{Valuation, Agree, atom_truth}
use Rattle.part_base.specs.FreshTruths.{with_fresh}

lt-true : (v n : ℕ) → v < n → nat_lt v n ≡ true
lt-true v n h = grind (arith, nat_tests)

lt-false : (v n : ℕ) → n ≤ v → nat_lt v n ≡ false
lt-false v n h = grind (arith, nat_tests)

pub with_fresh-Agree : (next : ℕ) (σ : Valuation) (fresh : ℕ → Bool) → Agree next σ (with_fresh next σ fresh)
with_fresh-Agree next σ fresh v below = sym (ap (λ t. cond t (σ v) (fresh (v - next))) (lt-true v next below))

pub truth-with_fresh : (next : ℕ) (σ : Valuation) (fresh : ℕ → Bool) (i : ℕ) → atom_truth (with_fresh next σ fresh) (variable (next + i)) ≡ fresh i
truth-with_fresh next σ fresh i =
    let place : next + i - next ≡ i = omega arith in
    ap (λ t. cond t (σ (next + i)) (fresh (next + i - next))) (lt-false (next + i) next (omega arith)) ∙ ap fresh place

-- the first fresh variable has the first value
pub truth-first : (next : ℕ) (σ : Valuation) (fresh : ℕ → Bool) → atom_truth (with_fresh next σ fresh) (variable next) ≡ fresh 0
truth-first next σ fresh =
    let place : next ≡ next + 0 = omega arith in
    ap (λ v. atom_truth (with_fresh next σ fresh) (variable v)) place ∙ truth-with_fresh next σ fresh 0
